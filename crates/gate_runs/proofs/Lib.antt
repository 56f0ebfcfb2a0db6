pub mod Bind
mod Ending
mod Gates
