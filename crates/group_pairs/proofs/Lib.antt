pub mod lemmas
mod Tables
mod Bounded
mod Pairing
