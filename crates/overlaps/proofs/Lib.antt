mod Clashing
mod Halving
mod Lists
