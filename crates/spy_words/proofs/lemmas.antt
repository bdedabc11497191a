-- Lemmas for the proofs of other crates.
pub mod Joins
pub mod ClassLaws
