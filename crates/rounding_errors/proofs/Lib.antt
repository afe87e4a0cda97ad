-- How far rounding moves a number, without and with sign, and how far floats lie apart.
pub mod Examples
pub mod Digits
pub mod Results
pub mod Integers
pub mod Spacing
