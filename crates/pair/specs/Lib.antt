-- Pairs and floats as the definitions write them.
pub mod Pair
