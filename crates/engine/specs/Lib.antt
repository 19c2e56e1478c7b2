pub mod Listing
pub mod Copying
pub mod Appending
