-- Lemmas for the proofs of other crates.
pub mod Right
pub mod Checked
