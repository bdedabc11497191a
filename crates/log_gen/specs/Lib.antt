pub mod Numbers
pub mod Waits
pub mod Stencil
pub use Rattle.spy_grammar.specs.Spelling
