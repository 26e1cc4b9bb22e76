pub mod Plain
pub mod Calls
