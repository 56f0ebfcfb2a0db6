mod Marking
mod Escaping
mod Releasing
mod Giving
