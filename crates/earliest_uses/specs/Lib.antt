pub mod Earlier
pub mod Visits
pub use Rattle.privilege.specs.Interference
pub use Rattle.semantics.specs.Points
