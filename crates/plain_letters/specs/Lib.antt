-- What the contracts on plain letters cite.
pub mod Telling
