-- Lemmas for the proofs of other crates.
pub mod KeptFields
pub mod Judging
pub mod PlainLines
