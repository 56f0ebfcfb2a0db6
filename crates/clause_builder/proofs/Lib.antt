pub mod Clauses
pub mod Tables
pub mod Places
pub mod Values
pub mod Marks
pub mod Extension
