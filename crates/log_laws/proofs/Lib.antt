pub mod lemmas
mod Reorder
mod Swapped
mod Strict
mod Linked
mod Replay
