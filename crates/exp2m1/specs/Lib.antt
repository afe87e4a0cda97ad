-- What the contracts of this crate say, the bench values, and what holds of whole weights.
pub mod Constants
pub mod Phases
pub mod Score
pub mod Range
pub mod Bench
pub mod Whole
