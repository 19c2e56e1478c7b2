pub mod Alignment
pub mod Links
pub mod Laws
pub mod Layers
