pub mod Lists
pub mod Matching
