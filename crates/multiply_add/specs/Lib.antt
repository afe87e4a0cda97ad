pub mod Fused
