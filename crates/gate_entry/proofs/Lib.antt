mod Choosing
mod Filling
mod Naming
mod Making
mod Reading
