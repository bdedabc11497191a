pub mod lemmas
mod Each
mod Numbered
mod Counted
