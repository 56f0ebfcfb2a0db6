pub mod Nothing
pub mod Ending
pub mod Staying
pub mod Marking
pub mod Emptying
