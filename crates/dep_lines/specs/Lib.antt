pub mod Parts
pub use Rattle.findings.specs.Texts
