pub mod Parted
pub use Rattle.semantics.specs.Points
