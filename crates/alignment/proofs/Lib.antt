pub mod Counts
pub mod Least
pub mod InOrder
pub mod Orders
pub mod Propers
pub mod Turns
pub mod Layers
pub mod Unique
