pub mod Deeper
pub mod Numbers
