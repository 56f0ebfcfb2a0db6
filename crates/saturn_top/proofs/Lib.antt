pub mod Machines
mod Owing
