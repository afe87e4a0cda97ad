pub mod Hexadecimal
pub mod Text
