pub mod Pairs
pub mod Numbering
pub mod Sets
pub mod Rising
