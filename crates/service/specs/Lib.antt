pub mod Book
pub mod Service
pub mod Whole
pub mod Refusals
