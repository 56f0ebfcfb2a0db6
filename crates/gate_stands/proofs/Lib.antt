mod Bools
mod Items
mod Arguing
mod Ending
mod Joining
