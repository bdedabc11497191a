pub mod LinesOf
pub mod Kept
