pub mod Kept
pub mod Before
pub mod Turns
pub mod Steps
pub mod Ends
