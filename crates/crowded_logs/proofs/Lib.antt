pub mod lemmas
mod Answering
mod Crowding
mod Framing
mod Tests
