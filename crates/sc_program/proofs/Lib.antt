pub mod Booleans
pub mod Numbers
pub mod BodyTable
pub mod RecordTable
