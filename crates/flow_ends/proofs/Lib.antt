pub mod Telling
mod Noting
mod Gates
