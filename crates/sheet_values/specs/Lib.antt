pub mod Values
pub mod Sheets
pub mod Lines
