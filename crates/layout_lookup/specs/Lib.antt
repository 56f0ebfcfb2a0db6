pub mod Firsts
pub mod Keys
pub mod Seen
pub mod Tables
