pub mod Bare
pub mod Over
mod Ready
mod Walked
mod Called
mod Having
mod Locals
