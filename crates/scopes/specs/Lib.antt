pub mod Frames
pub mod Stack
pub mod View
