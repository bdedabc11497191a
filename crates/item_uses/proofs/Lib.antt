pub mod lemmas
mod Agreeing
mod Ends
mod Least
mod OneMore
mod Shared
mod Standing
mod Strongest
