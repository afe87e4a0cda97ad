-- Why the code follows the steps: bits and order of floats, the whole numbers of step 6, and the steps by their tests.
pub mod Patterns
pub mod Floor
pub mod Steps
pub mod Small
pub mod Whole
