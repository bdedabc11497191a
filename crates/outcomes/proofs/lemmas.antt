-- Lemmas for the proofs of other crates.
pub mod Clean
pub mod Found
pub mod NestedFound
pub mod Replays
