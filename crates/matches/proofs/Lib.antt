pub mod Binding
pub mod Basics
pub mod Bounded
pub mod Below
pub mod Matching
pub mod Literal
pub mod Alternatives
pub mod Steps
