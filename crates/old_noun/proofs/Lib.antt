-- What is shown of the definition before request A8: the main theorems first.
pub mod Main
pub mod Agree
pub mod Equal
pub mod Verbless
