pub mod FloatSum
mod Examples
