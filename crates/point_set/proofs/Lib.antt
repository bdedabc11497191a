pub mod lemmas
mod Compared
mod Defaults
mod Numbers
