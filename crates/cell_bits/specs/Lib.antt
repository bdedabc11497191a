pub mod Bits
pub use Rattle.grid.specs.Cuts
