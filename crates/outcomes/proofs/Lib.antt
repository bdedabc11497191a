pub mod lemmas
mod Pairs
mod Races
mod Decided
mod SomeRaces
mod SomeSpare
mod Existing
mod Inputs
