pub mod Allowed
pub mod Interference
