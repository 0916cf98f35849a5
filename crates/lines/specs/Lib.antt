-- What a line program writes, the machine behind it, and its calls; and what the line program of stems answers.
pub mod Line
pub mod Plain
pub mod Machine
pub mod Calls
pub mod Refusals
pub mod Stems
pub mod Facts
pub mod Examples
