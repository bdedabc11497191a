mod Giving
mod Leading
