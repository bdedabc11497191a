pub use Rattle.spare_laws.specs.Listed
pub use Rattle.event_graph.specs.Orders
pub use Rattle.reach_marks.specs.Reached
pub use Rattle.semantics.specs.ReplayOrder
pub use Rattle.semantics.specs.Spare
