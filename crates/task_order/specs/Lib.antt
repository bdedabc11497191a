pub mod Runs
pub mod Gathered
pub mod Users
pub mod Rows
pub mod Searched
pub use Rattle.semantics.specs.Events
pub use Rattle.semantics.specs.Shown
pub use Rattle.reach_marks.specs.Reached
