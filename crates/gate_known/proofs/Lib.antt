mod Growing
mod Marking
mod Acting
mod Finding
