pub mod Kept
pub mod Built
pub mod Heres
pub mod Walked
pub mod Found
pub mod Named
pub mod Left
pub mod Bare
