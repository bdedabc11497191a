-- Lemmas for the proofs of other crates.
pub mod Trails
pub mod CopiedCells
pub mod Runs
