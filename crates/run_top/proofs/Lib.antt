mod Owing
mod Machines
