pub mod Stream
pub mod Demands
pub mod Counts
