pub mod Least
pub mod Rects
pub mod Runs
