pub mod Steps
pub use Rattle.grid.specs.Corners
pub use Rattle.grid.specs.Cuts
