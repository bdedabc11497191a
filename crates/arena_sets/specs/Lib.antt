pub mod Joined
pub mod Pieces
pub mod RunsFrom
pub use Rattle.point_set.specs.Rects
pub use Rattle.point_set.specs.Runs
