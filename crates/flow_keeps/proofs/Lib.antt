pub mod Told
pub mod Valued
pub mod Setting
pub mod Called
pub mod Updated
