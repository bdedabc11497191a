pub mod lemmas
mod Earlier
mod Kept
mod Seen
mod Own
mod Pairs
mod ShownPair
