-- What the contracts of this crate say.
pub mod Table
pub mod Lookup
