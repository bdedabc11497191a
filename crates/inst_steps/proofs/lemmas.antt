-- Lemmas for the proofs of other crates.
pub mod StoreMaps
pub mod StoreLaws
pub mod Covered
pub mod StepCounts
pub mod FieldMoves
