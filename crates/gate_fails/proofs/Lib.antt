mod Stepping
mod Marking
mod Ordering
mod Ending
mod Acting
mod Erring
