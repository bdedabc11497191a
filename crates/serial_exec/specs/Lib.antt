pub mod Changes
pub mod Histories
pub mod Kept
pub mod OwnReqs
pub use Rattle.point_laws.specs.Cut
pub use Rattle.semantics.specs.Points
pub use Rattle.semantics.specs.Sequential
