pub mod Logic
pub mod Same
pub mod Bounds
pub mod Flags
pub mod Matches
pub mod Reliances
pub mod Rules
pub mod Text
