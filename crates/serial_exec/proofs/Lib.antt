pub mod lemmas
mod Changing
mod Noting
mod Owned
mod Gathered
mod Keeping
