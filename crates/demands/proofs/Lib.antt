pub mod Simulation
pub mod Partition
pub mod Streams
pub mod Isolation
pub mod Reports
pub mod Demands
pub mod Counts
pub mod Examples
