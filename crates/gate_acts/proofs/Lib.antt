mod Entries
mod Stepping
mod Valuing
mod Operating
mod Taking
