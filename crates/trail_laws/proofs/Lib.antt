pub mod lemmas
mod Followed
mod LastPut
mod Away
mod Copied
mod OneRead
