-- What the contracts on floating marks cite.
pub mod Marked
