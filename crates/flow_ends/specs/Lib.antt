pub mod Fates
pub mod Encoded
pub mod Noted
