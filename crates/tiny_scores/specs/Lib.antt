-- How close a tiny score is.
pub mod TinyScores
