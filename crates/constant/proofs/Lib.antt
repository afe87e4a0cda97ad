pub mod Exactly
pub mod Word
pub mod Places
pub mod Value
pub mod Kept
pub mod Spelled
pub mod Replies
pub mod Examples
