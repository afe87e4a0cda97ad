pub mod Chains
pub mod Exact
