pub mod Marked
pub mod Effects
pub mod Known
