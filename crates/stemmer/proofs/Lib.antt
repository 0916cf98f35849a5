-- The main theorems, and the laws that the proofs of the entries cite.
pub mod Main
pub mod Answers
pub mod Without
pub mod Numbering
pub mod Placing
pub mod Blocks
pub mod Depends
pub mod Marks
