-- Lemmas for the proofs of other crates.
pub mod Order
pub mod Counting
pub mod Changes
pub mod WellFormed
pub mod Equality
pub mod Grouping
pub mod Sums
