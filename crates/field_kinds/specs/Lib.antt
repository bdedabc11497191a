pub mod Lists
pub mod Places
pub mod Kinds
pub use Rattle.field_laws.specs.Fields
pub use Rattle.field_laws.specs.CutFields
pub use Rattle.semantics.specs.Points
pub use Rattle.semantics.specs.Records
pub use Rattle.spy_grammar.specs.Spelling
