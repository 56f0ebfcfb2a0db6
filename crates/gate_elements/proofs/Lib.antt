mod Leading
mod Indexed
