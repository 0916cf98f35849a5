-- What the entries answer, and what index builders do with it; what is printed of a refusal.
pub mod Entries
pub mod Numbers
pub mod Messages
pub mod Blocks
pub mod Depends
pub mod Marks
