mod Adding
mod Numbers
mod Simple
