-- Why the casts of k lose nothing, and which bits of it the tables see.
pub mod Bits
pub mod Range
