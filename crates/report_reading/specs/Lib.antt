pub mod Numbers
pub mod CodeReading
pub mod ValueReading
pub mod Reading
pub use Rattle.findings.specs.Codes
pub use Rattle.findings.specs.Texts
