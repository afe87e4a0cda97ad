pub mod Takes
pub mod Runs
pub mod Promises
mod Examples
