pub mod lemmas
mod Distinct
mod Finding
mod Claiming
mod Gapped
mod Clashing
mod Ways
mod Aliases
