pub mod Nested
pub mod Rows
pub mod Sides
pub use Rattle.outcomes.specs.NestedOutcome
pub use Rattle.semantics.specs.Nesting
