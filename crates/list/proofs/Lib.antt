pub mod Ascends
pub mod Links
pub mod ListEdits
pub mod LookedUp
pub mod Moved
pub mod Places
