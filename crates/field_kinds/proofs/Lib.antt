mod Placed
mod Telling
mod Spelled
