mod Differing
mod Stages
mod Narrowing
