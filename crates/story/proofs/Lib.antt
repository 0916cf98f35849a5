-- What is shown of the writing of stories.
pub mod Spelling
pub mod Lines
pub mod Keys
pub mod NotedRows
pub mod Puts
pub mod Halves
pub mod PostLines
pub mod NotedLines
pub mod ItemLines
pub mod Entry
