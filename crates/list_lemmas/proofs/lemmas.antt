-- Lemmas for the proofs of other crates.
pub mod Contained
pub mod Filtered
pub mod Firsts
pub mod Pairs
pub mod Parts
pub mod Places
pub mod Ranges
