pub mod Listing
pub mod Tracing
