mod Gathering
mod Keeping
mod Leading
mod Spelling
