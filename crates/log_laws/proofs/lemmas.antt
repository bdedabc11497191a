-- Lemmas for the proofs of other crates.
pub mod Members
pub mod Apart
pub mod Drawn
pub mod Rounds
pub mod Cycles
pub mod Consistent
pub mod Admitted
pub mod StepLists
pub mod OwnConflicts
pub mod Swap
pub mod Turns
pub mod Answers
pub mod Laws
pub mod Listed
pub mod SerialOrder
pub mod ReadLogs
pub mod Numbered
