-- Floats and their patterns, and rounding by a shift.
mod Floats
pub mod Shift
