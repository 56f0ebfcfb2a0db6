pub mod Called
pub mod States
