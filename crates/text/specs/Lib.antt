pub mod Letters
pub mod Refused
pub mod Faults
pub mod Lines
pub mod Records
pub mod Loading
pub mod Written
pub mod ReadsBack
