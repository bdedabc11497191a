-- Lemmas for the proofs of other crates.
pub mod Lines
pub mod Numbered
