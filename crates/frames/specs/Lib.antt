pub mod Frame
pub mod Body
pub mod Part
pub mod Numbers
