pub mod Among
pub mod Bits
pub mod Depths
pub mod Entry
pub mod Found
pub mod NoReports
pub mod Summaries
