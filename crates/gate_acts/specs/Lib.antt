pub mod Tables
pub mod Acts
