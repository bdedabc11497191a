pub mod Counting
pub mod Meetings
pub mod Spans
