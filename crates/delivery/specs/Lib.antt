pub mod Delivery
pub mod Handed
