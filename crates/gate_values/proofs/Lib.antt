mod Truths
mod Ones
mod Taking
mod Computing
mod Operating
mod Targets
