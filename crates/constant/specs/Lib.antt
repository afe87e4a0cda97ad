pub mod Constant
pub mod Machine
