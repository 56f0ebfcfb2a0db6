pub mod Layouts
pub mod Behind
