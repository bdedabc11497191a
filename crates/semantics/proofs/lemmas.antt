-- Lemmas for the proofs of other crates.
pub mod InOrder
pub mod Nodes
pub mod RecordRules
pub mod SamePlaces
pub mod Versions
