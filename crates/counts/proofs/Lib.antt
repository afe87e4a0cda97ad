pub mod Shown
pub mod Written
mod Examples
