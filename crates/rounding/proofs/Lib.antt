-- The theory of rounding, by subject, over the unit and the direction. Callers cite it. And worked examples of the definitions.
pub mod Place
pub mod Increment
pub mod Pattern
pub mod Rounded
pub mod Leading
pub mod Fits
mod Examples
mod DirectionBytes
