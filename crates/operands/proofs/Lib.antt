pub mod Reading
pub mod Signs
