mod Giving
mod Acting
mod Making
