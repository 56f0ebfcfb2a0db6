pub mod Numbers
pub mod EachBit
