pub mod Sheet
pub mod FirstBad
