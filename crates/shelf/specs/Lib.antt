pub mod Slots
pub mod Held
pub mod Calls
pub mod Runs
pub mod Grading
