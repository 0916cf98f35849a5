-- The steps in another order, and what comes of it.
pub mod Order
pub mod Settled
pub mod Defined
