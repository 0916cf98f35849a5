-- What the program answers to a line.
pub mod Explained
pub mod Examples
