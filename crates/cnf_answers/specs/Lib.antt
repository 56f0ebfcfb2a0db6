pub mod Formula
pub mod Models
pub mod Values
pub mod Decided
