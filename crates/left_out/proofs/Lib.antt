mod Lists
mod OneRow
mod Nothing
mod Alike
mod Whole
