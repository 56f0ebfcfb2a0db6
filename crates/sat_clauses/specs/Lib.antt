pub mod Learnt
pub mod Held
pub mod Certified
