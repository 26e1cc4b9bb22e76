pub mod Zipped
pub mod Admissions
pub mod Asking
pub mod Printing
