-- What is shown of the places of a stem: the main theorems first.
pub mod Main
pub mod Examples
pub mod Lists
pub mod Heads
pub mod Kept
pub mod Fewer
