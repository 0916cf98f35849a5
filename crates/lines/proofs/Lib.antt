-- The main theorems of the line machine, and the laws that its proofs cite.
pub mod Main
pub mod Examples
pub mod Lists
pub mod Room
pub mod Answering
pub mod Runs
pub mod Opening
pub mod Splitting
pub mod Whole
pub mod Calling
pub mod Questions
pub mod Feeding
