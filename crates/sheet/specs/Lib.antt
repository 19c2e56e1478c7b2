pub mod Refusals
pub mod Lengths
pub mod Words
pub mod Edits
pub mod Turns
