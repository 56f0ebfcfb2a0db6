pub mod Transfers
