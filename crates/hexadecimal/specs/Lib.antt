pub mod Text
pub mod Test
pub mod Form
