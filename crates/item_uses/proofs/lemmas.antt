-- Lemmas for the proofs of other crates.
pub mod Bounded
pub mod Growing
pub mod ItemKinds
pub mod LeastPlaces
pub mod Positions
