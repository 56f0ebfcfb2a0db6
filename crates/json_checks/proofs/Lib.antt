mod Totals
mod Whole
