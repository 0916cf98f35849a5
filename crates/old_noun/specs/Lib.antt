-- The definition before request A8, for the proof that it is equal to the present one.
pub mod OldNoun
pub mod Facts
