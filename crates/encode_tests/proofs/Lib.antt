pub mod Layouts
pub mod Wholeness
