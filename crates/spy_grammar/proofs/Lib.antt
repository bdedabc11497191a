pub mod lemmas
mod CellLaws
mod WordFaults
mod Given
