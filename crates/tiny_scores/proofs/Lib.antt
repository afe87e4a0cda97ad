-- Why a tiny score is close: the entries by a computed test, and the two terms by the errors of their operations.
pub mod Examples
pub mod Entries
pub mod Weights
pub mod Polynomial
pub mod Estimates
pub mod TwoTerms
pub mod TinyScores
