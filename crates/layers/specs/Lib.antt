pub mod Stretches
pub mod Windows
