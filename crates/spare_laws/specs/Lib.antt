pub mod Listed
pub use Rattle.semantics.specs.Events
pub use Rattle.semantics.specs.ReplayOrder
pub use Rattle.semantics.specs.Spare
