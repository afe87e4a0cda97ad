-- Why sums and products are exact, from whole numbers up to floats.
pub mod Multiples
pub mod Precision
pub mod ErrorFree
pub mod Signed
pub mod Units
pub mod TwoSum
pub mod Nearest
pub mod TwoProduct
pub mod Scaled
pub mod Dekker
pub mod Examples
