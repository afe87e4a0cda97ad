-- The steps of this crate's proofs.
pub mod Exact
pub mod Places
pub mod Examples
