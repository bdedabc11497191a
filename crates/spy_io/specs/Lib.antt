pub mod Causes
pub mod Counting
pub mod MemorySink
pub mod MemorySource
