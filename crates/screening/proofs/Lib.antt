pub mod Chunks
-- The computed reply and the documents' words.
mod Found
mod First
-- Worked examples of the definitions.
mod Examples
