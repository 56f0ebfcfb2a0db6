mod Numbered
mod Combining
mod Assigned
