pub mod Speakers
pub mod Words
pub mod Calls
pub mod Says
pub mod Seen
