mod Listing
mod Collecting
mod Widening
mod Counting
mod Putting
mod Copying
