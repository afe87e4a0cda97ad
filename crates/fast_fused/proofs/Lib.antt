pub mod NearSums
pub mod SmallProducts
