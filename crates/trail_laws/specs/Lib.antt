pub use Rattle.semantics.specs.Links
