mod Types
mod Reading
mod Objects
mod Initialised
mod Assigning
mod Beginning
