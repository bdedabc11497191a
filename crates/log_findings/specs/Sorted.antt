-- Sorted nodes, or why they are not.
use Rattle.std.specs.Prelude.{◌≡◌, List}
use Rattle.vocabulary.specs.Prelude.{Node}
use Rattle.event_graph.specs.Orders.{IsOrderOf, AreCycleEvents}
use Rattle.log_findings.specs.declared.node_order.Sorting.{Sorting}
use Rattle.log_findings.specs.declared.node_order.Unsorted.{Unsorted}
use Rattle.log_findings.specs.declared.node_order.Unsorted.TheVariants.{Cycle, Memory}

-- This is the graph of the nodes, with its order.
pub record AreSorted (nodes : List Node) (s : Sorting) : Type 0 where
  pub graph : s.graph ≡ nodes
  pub order : IsOrderOf nodes s.order

-- Why nodes are not sorted: there is a cycle, and the events are those of the one that is shown.
abbrev pub IsUnsorted : List Node → Unsorted → Type 0
IsUnsorted nodes (Cycle events) = AreCycleEvents nodes events
IsUnsorted nodes Memory = Unit {0}
