pub mod Examples
pub mod Here
pub mod Through
pub mod Untouched
