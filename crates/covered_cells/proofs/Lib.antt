mod Bounded
mod Corners
pub mod lemmas
mod Marked
mod Rising
mod Swept
