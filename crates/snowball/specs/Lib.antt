-- What the contracts of the searches and of the environment cite.
pub mod Rows
pub mod Search
pub mod Cut
pub mod Match
pub mod Chars
pub mod Stands
pub mod Bytes
