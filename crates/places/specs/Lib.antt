-- The places of a stem's letters in the word as it is typed.
pub mod Places
pub mod Laws
pub mod Examples
