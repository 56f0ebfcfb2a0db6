pub mod Numbers
pub mod Cuts
pub mod Spelling
pub mod Gathered
