pub mod Codes
pub mod ValueTexts
pub mod Texts
pub mod Cells
pub use Rattle.spy_words.specs.Classes
pub use Rattle.value_terms.specs.Values
