pub mod AskedIds
pub mod Answered
pub mod Crowding
pub mod Lines
pub mod Inputs
pub use Rattle.crowded_logs.specs.Crowded
pub use Rattle.crowded_logs.specs.Noted
pub use Rattle.log_reading.specs.Spelled
