pub mod Items
pub mod Contents
pub mod Refusals
pub mod Whole
mod Examples
pub mod Numbers
