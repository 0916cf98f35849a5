-- What is shown of the order of the steps: the main theorems first.
pub mod Main
pub mod Exchange
pub mod Apart
pub mod Endings
pub mod Fronts
pub mod Same
pub mod Kept
pub mod Places
pub mod Beyond
pub mod Settled
pub mod Defined
