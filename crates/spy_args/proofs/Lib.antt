mod Taken
mod Sized
mod Parsed
