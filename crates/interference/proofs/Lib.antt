pub mod lemmas
mod AllPairs
mod Answering
mod Rows
mod Skipping
