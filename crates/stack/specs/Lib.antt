pub mod Stacks
pub mod Places
pub mod Histories
pub mod Laws
