pub mod Claims
pub mod Reach
