pub mod FirstBad
pub mod Lines
mod Examples
