pub mod LinksFrom
pub mod Unwritten
