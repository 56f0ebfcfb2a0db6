pub mod Laid
pub mod Merged
pub mod Sets
pub mod Slots
pub mod Fills
