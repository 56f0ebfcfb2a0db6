mod Steps
mod Searching
