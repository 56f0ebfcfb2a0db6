pub mod Read
pub mod Reading
pub mod Laws
pub mod Gives
pub mod Nests
pub mod Spans
