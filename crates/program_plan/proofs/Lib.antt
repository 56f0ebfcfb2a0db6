pub mod Marks
pub mod Meanings
pub mod CallRows
