mod Marking
mod Telling
mod Walking
