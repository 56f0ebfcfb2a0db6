pub mod Words
pub mod Numbers
pub mod Shapes
pub mod Leads
pub mod Matter
