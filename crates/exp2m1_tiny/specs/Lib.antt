-- What the contracts of this crate say.
pub mod Coefficients
pub mod Tiny
