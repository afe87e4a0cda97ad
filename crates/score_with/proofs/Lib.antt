-- Where the list decides, and the built-in table, lent; and replies computed.
pub mod BuiltIn
pub mod Listed
mod Examples
