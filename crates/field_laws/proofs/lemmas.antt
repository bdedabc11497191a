-- Lemmas for the proofs of other crates.
pub mod Firsts
