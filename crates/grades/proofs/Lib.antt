pub mod Sets
pub mod Counting
pub mod Levels
