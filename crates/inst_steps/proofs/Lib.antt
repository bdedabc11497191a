pub mod lemmas
mod Allowed
mod Behind
mod Numbers
mod Owning
mod Starting
mod Sweeping
