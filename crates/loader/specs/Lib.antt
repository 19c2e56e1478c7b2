pub mod Rest
pub mod Opened
pub mod Turns
