pub mod WaitCounts
pub mod EventPlaces
pub mod Marked
pub mod Inverse
pub mod Orders
pub mod FlatLists
pub use Rattle.semantics.specs.Events
pub use Rattle.semantics.specs.ReplayOrder
