pub mod Corners
pub mod Sums
pub mod Asked
