pub mod Interfering
pub mod Steps
pub mod Uses
pub mod Walks
pub mod Written
pub use Rattle.semantics.specs.Launches
