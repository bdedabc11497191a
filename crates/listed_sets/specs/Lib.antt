pub mod Listed
pub mod Meant
pub use Rattle.point_laws.specs.Cut
pub use Rattle.point_set.specs.Least
