pub mod Firsts
pub mod Same
pub mod TwoStates
pub mod Whole
