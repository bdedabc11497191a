mod CornersSoFar
mod Counted
mod Grown
mod Steps
