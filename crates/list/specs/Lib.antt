pub mod Layout
pub mod Blocks
pub mod Lists
pub mod Proper
pub mod ListLaws
