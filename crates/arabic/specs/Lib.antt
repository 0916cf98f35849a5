-- What the contracts of the Arabic steps cite: what an environment stands for, and what a step answers.
pub mod Tried
pub mod Changes
pub mod Endings
pub mod Nests
pub mod Fronts
pub mod Bytes
pub mod Rows
pub mod Texts
pub mod Kinds
pub mod Contexts
