pub mod Kinds
pub mod Marks
pub use Rattle.partings.specs.Parted
pub use Rattle.point_laws.specs.Alike
pub use Rattle.atoms.specs.Atoms
