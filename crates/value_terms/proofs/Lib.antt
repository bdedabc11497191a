pub mod lemmas
mod Placing
mod Held
