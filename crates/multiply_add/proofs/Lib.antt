-- What the functions compute, over plain numbers, by subject. Callers cite `Sums` and `Products`.
pub mod Sums
pub mod Products
mod Special
mod Examples
