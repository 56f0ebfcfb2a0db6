pub mod Entries
pub mod Sought
pub mod Given
