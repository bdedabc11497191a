mod Back
mod Listed
mod Walked
mod Traced
