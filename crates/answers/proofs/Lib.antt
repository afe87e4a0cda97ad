pub mod Results
pub mod Answers
mod Examples
