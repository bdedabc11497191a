pub mod lemmas
mod Blocking
mod Claimed
mod Clashing
mod Halving
mod Keeping
mod Nodes
mod Ordered
mod Pairing
mod Passing
mod Reaching
mod Searched
mod Splitting
