mod Moving
mod Following
mod Leading
mod Gathering
mod Meeting
mod Writing
