pub mod Layout
pub mod Blocks
pub mod Grids
pub mod Proper
pub mod Bounded
