pub mod Accepted
pub mod EditLaws
pub mod Found
pub mod Words
pub mod Turns
