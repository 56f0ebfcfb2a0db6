pub mod Laid
pub mod Expressions
pub mod Functions
