-- Laws on plain numbers that the proofs of the functions cite, by subject. Callers cite `Nat`, `Sticky` and `Shifts`.
pub mod Nat
pub mod Sticky
mod Product
pub mod Shifts
