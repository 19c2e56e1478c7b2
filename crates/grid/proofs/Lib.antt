pub mod BitLaws
pub mod Firsts
pub mod Places
pub mod Edits
pub mod Laid
pub mod Rows
