pub mod Values
pub mod Foldings
pub mod Computed
pub mod WorkedValues
