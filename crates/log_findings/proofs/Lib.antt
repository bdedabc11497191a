pub mod lemmas
mod Listings
mod Writings
