pub mod Here
pub mod Tables
pub mod Shapes
pub mod Typing
