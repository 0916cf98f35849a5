-- The laws behind the floating marks.
pub mod Bytes
pub mod Finding
pub mod Taking
pub mod Sizes
