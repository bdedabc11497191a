pub mod lemmas
mod Numbers
