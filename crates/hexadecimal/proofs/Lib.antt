pub mod Steps
pub mod Form
pub mod Examples
