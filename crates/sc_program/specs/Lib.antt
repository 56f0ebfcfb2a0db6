pub mod Firsts
pub mod Places
pub mod Bodies
pub mod Globals
pub mod Tables
pub mod Types
