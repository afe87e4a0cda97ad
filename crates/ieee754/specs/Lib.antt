pub mod Operations
pub mod Nans
