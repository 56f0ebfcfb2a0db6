mod Counted
mod Small
