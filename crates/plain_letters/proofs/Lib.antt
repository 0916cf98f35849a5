-- The laws behind the plain letters.
pub mod Ranges
