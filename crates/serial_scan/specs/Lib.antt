pub mod Claims
pub mod Scanned
pub use Rattle.semantics.specs.Kinds
pub use Rattle.semantics.specs.SerialOrder
pub use Rattle.point_laws.specs.Alike
pub use Rattle.earliest_uses.specs.Visits
