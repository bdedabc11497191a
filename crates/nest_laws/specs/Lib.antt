pub mod Below
pub mod WorkedNests
