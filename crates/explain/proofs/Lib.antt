-- The main theorems of the program, and the laws that its proofs cite.
pub mod Theorems
pub mod Examples
pub mod Putting
