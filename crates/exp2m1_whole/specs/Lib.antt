-- What the contracts of this crate say.
pub mod Whole
pub mod Table
