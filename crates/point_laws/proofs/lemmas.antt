-- Lemmas for the proofs of other crates.
pub mod Values
pub mod Rows
pub mod Effects
pub mod Mirrored
pub mod TaskMoves
pub mod Accesses
pub mod Differences
pub mod Order
pub mod Firsts
pub mod Raced
pub mod Cuts
