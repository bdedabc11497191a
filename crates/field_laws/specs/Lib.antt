pub mod Fields
pub mod CutFields
pub use Rattle.semantics.specs.Events
pub use Rattle.semantics.specs.Races
pub use Rattle.semantics.specs.Reads
pub use Rattle.semantics.specs.Records
pub use Rattle.semantics.specs.Tables
pub use Rattle.spy_grammar.specs.Spelling
