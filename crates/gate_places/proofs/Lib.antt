pub mod Checking
pub mod Dereferencing
pub mod Reaching
pub mod Placing
pub mod Assigning
pub mod Indexing
pub mod Membering
