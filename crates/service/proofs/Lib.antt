pub mod Held
pub mod Memory
pub mod Simulation
pub mod Calls
