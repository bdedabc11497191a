-- What a graph answers.
use Rattle.std.specs.Prelude.{◌≡◌, ℕ, List, map, Some, unwrap_or, slice_get}
use Rattle.vocabulary.specs.Prelude.{Node, IsCycle}
use Rattle.semantics.specs.ReplayOrder.{done_at, waits_at, replay_order, shown_cycle}
use Rattle.event_graph.specs.declared.stuck.Stuck.{Stuck}
use Rattle.event_graph.specs.declared.stuck.Stuck.TheVariants.{Cycle, Memory}

-- The node at position `on` has the event that the node at position `node` lists in place `k`.
pub record IsWait (nodes : List Node) (node k on : ℕ) : Type 0 where
  pub event : ℕ
  pub listed : slice_get (waits_at nodes node) k ≡ Some event
  pub done : done_at nodes on ≡ Some event

-- There is no cycle, and this is the order in which the nodes are replayed.
pub record IsOrderOf (nodes : List Node) (order : List ℕ) : Type 0 where
  pub replayed : order ≡ replay_order nodes
  pub free : (cycle : List ℕ) → IsCycle nodes cycle → ⊥

-- The event of the node at a position, or 0 where there is none.
abbrev pub event_at : List Node → ℕ → ℕ
event_at nodes k = unwrap_or (done_at nodes k) 0

-- There is a cycle, and these are the events of the one that is shown.
pub record AreCycleEvents (nodes : List Node) (events : List ℕ) : Type 0 where
  pub cycle : List ℕ
  pub is_cycle : IsCycle nodes cycle
  pub shown : shown_cycle nodes ≡ Some cycle
  pub events_are : events ≡ map (event_at nodes) cycle

-- Why nodes have no order.
abbrev pub IsWhy : List Node → Stuck → Type 0
IsWhy nodes (Cycle events) = AreCycleEvents nodes events
IsWhy nodes Memory = Unit {0}
