-- Lemmas for the proofs of other crates.
pub mod Noted
pub mod CellEnds
pub mod Moved
