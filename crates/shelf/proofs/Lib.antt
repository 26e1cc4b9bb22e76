pub mod Slots
pub mod Ordered
pub mod Graded
pub mod Admitting
pub mod Lawful
