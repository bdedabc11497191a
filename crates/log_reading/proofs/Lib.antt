pub mod lemmas
mod Held
mod TextHeld
mod Ended
