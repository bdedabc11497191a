pub use Rattle.semantics.specs.Events
pub use Rattle.semantics.specs.Faults
pub use Rattle.semantics.specs.Links
pub use Rattle.event_graph.specs.Orders
pub use Rattle.outcomes.specs.Outcome
pub use Rattle.semantics.specs.Races
pub use Rattle.findings.specs.Texts
