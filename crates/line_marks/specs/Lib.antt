pub mod Comments
pub mod Names
pub mod Markers
pub mod Marks
pub mod Sources
