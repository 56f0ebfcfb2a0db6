mod Putting
mod Marking
mod Objects
mod Each
mod Stating
mod Pointing
mod Filling
