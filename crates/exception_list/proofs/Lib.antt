-- Laws by which a walk over a lent list goes on: of its check, of the order of a good list, and of the lookup in it; and what is found in a good list.
pub mod Finite
pub mod Checked
pub mod Rises
pub mod Searched
pub mod Halves
pub mod Settled
mod Examples
