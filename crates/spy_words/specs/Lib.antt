pub mod Classes
pub mod Faults
pub mod Reading
pub mod ShortLists
