pub mod Bits
pub mod Blanks
pub mod Fates
pub mod Held
pub mod Leading
pub mod Rests
pub mod Upward
pub mod Walked
