pub mod Values
pub mod Sheets
mod Examples
