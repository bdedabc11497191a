mod Collected
mod Placed
mod Tied
mod ShownCut
mod Ordered
