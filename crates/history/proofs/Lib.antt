-- What is shown of histories: the main theorems first.
pub mod Main
pub mod Examples
pub mod Rows
pub mod Playing
pub mod Keys
pub mod Letters
pub mod Playback
pub mod Parts
pub mod Reading
pub mod Ascii
pub mod Lengths
