pub mod Arrays
