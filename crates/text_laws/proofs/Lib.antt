pub mod Cuts
pub mod Spelling
pub mod Told
pub mod Plain
