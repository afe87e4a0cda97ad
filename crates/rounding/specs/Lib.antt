pub mod Rounding
pub mod Named
pub mod Machine
