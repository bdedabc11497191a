pub mod Blocks
pub mod Claiming
pub mod Claims
pub mod Interference
pub mod Reaches
