-- Why halving a stretch finds what a scan of it finds.
pub mod Order
pub mod Ascent
pub mod Scan
pub mod Halving
mod Middle
