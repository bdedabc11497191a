pub mod Atoms
pub use Rattle.point_laws.specs.Alike
