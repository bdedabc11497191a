-- Lemmas for the proofs of other crates.
pub mod Listing
pub mod Growing
pub mod OneList
pub mod Spared
