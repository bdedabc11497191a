-- Lemmas for the proofs of other crates.
pub mod GrammarLaws
pub mod RowLaws
pub mod LaunchLaws
pub mod NestedLaws
