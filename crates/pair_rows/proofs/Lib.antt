mod Counts
mod Classes
mod Sums
mod Pushed
