pub mod Objects
pub mod Laying
