pub mod Room
pub mod Alike
pub mod Calls
pub mod Streams
pub mod Examples
