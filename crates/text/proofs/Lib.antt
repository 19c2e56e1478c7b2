mod Examples
pub mod Pieces
mod Numbers
mod Bodies
mod Upto
pub mod ReadsBack
pub mod Linkings
