-- Lemmas for the proofs of other crates.
pub mod Turning
pub mod Counting
