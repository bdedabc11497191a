mod Along
mod Keeping
mod Near
