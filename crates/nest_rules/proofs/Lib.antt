mod Adding
mod Parting
pub mod lemmas
