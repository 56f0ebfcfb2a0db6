pub mod Lists
pub mod Steps
pub mod Objects
pub mod Layouts
pub mod Literals
pub mod Right
