pub mod Counts
pub mod Filters
pub mod Lists
pub mod Ranges
pub mod Rows
