pub mod Steps
pub mod Objects
pub mod Calls
pub mod Layouts
