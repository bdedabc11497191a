pub mod Spelled
pub use Rattle.spy_lines.specs.LinesOf
pub use Rattle.spy_grammar.specs.Reading
pub use Rattle.semantics.specs.Records
pub use Rattle.spy_grammar.specs.Spelling
pub use Rattle.semantics.specs.TextFaults
