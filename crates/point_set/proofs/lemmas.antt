-- Lemmas for the proofs of other crates.
pub mod Ahead
pub mod Bands
pub mod Columns
pub mod Counted
pub mod InRuns
pub mod Left
pub mod Maximal
pub mod Rows
pub mod RunPoints
pub mod Same
pub mod Strips
