pub mod Entering
pub mod Seeking
pub mod Rows
pub mod Giving
