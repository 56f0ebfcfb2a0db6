pub mod Words
pub mod Finding
pub mod Lines
pub mod Verified
pub mod Answer
