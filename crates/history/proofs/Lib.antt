pub mod Conserved
pub mod Examples
pub mod Runs
