mod ValuesSet
mod CellsGiven
mod CellsSet
mod PartsSame
