pub mod Places
pub mod Held
pub mod Reach
pub mod Loops
pub mod Bodies
mod Examples
