mod Cuts
mod FirstLine
mod OneList
