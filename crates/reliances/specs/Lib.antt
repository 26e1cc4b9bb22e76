pub mod Unification
pub mod Marked
pub mod Sheets
pub mod Following
pub mod PositiveSearch
pub mod RestraintSearch
pub mod Searching
