-- Lemmas for the proofs of other crates.
pub mod Placed
pub mod Whole
