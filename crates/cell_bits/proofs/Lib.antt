mod BitWords
mod Blocks
pub mod lemmas
