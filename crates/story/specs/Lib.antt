-- What the story entry answers, and what it is to write a story.
pub mod Entry
pub mod Telling
