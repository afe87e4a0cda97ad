pub mod Fits
pub mod Nans
mod Examples
