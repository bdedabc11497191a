pub mod lemmas
mod CutTables
mod Lists
mod Alike
mod Same
mod Staying
mod Tabled
mod Cuts
mod Listed
mod Races
mod Replayed
