-- The history of a word, its text, a reader of that text, and what is said of them.
pub mod Steps
pub mod History
pub mod Text
pub mod Reader
pub mod Laws
pub mod Examples
