mod Least
mod Meeting
mod Reaching
