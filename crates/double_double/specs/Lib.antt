-- What the contracts of this crate say.
pub mod Pairs
pub mod Exactness
