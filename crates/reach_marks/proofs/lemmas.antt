-- Lemmas for the proofs of other crates.
pub mod Chains
pub mod Marked
pub mod Transitive
