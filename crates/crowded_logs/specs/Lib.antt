pub mod Noted
pub mod Crowded
pub use Rattle.semantics.specs.Faults
pub use Rattle.semantics.specs.Rules
