-- What the contracts of this crate say.
pub mod Constants
pub mod Exponential
pub mod Range
