pub mod Faults
pub mod Lines
pub mod Shelves
pub mod Sources
pub mod Text
