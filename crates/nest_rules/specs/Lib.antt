pub mod Pending
pub use Rattle.semantics.specs.Nesting
