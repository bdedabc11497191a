pub mod lemmas
mod Times
mod Taking
mod Walks
mod Waited
mod Inverted
mod NodeOrder
mod Cycling
mod Flat
mod Sourced
mod Nodes
mod Kept
