mod Claiming
mod Meeting
mod Scanning
