mod Merging
mod KeptCells
mod Celled
mod Locals
mod Fills
