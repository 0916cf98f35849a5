-- Calls that are made again.
pub mod Tries
