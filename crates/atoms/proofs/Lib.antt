mod Points
mod Alike
mod Parted
mod Places
