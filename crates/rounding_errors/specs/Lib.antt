-- Values of patterns, and how far they lie apart.
pub mod Spacing
