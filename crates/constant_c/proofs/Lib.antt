pub mod Apart
