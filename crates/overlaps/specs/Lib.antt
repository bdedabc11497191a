pub mod Between
pub mod Meeting
pub mod Rows
