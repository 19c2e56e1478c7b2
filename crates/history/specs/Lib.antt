pub mod Operations
pub mod Histories
pub mod Laws
