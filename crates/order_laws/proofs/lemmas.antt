-- Lemmas for the proofs of other crates.
pub mod Agreeing
pub mod TaskUses
pub mod SerialPlaces
