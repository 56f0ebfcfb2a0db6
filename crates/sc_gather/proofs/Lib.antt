pub mod Sites
pub mod Agreement
