mod Cutting
mod Joining
mod JoiningRects
mod RunPoints
