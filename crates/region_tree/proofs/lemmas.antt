-- Lemmas for the proofs of other crates.
pub mod Climbs
pub mod Growth
