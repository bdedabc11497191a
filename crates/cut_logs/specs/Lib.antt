pub mod Cutting
pub use Rattle.listed_sets.specs.Listed
pub use Rattle.listed_sets.specs.Meant
pub use Rattle.point_laws.specs.Cut
