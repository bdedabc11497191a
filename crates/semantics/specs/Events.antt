-- Nodes, what they wait on, and which is before which. Nodes are named by position.
use Rattle.std.specs.Prelude.{◌≡◌, ◌≢◌, ℕ, List, [], ◌∷◌, map, Some, Contains, AllPairs, slice_get}
use Rattle.semantics.specs.declared.tables.LogNode.{LogNode}
use Rattle.semantics.specs.Tables.{Tables}

-- A node: its completion event, and the events that it waits on.
pub record Node : Type 0 where
  pub done : ℕ
  pub waits : List ℕ

-- The nodes of a log, by their events alone.
abbrev pub graph_of : List LogNode → List Node
graph_of nodes = map (λ (n : LogNode). record { done = n.done; waits = n.waits }) nodes

-- The node at position `later` waits on the node at position `earlier`: it lists that node's event.
pub record WaitsOn (nodes : List Node) (later earlier : ℕ) : Type 0 where
  pub on : Node
  pub by : Node
  pub on_is : slice_get nodes earlier ≡ Some on
  pub by_is : slice_get nodes later ≡ Some by
  pub listed : Contains by.waits on.done

-- The nodes between `from` and `to` make a chain in which each node is waited on by the next.
abbrev pub IsChain : List Node → ℕ → List ℕ → ℕ → Type 0
IsChain nodes start [] end = WaitsOn nodes end start
IsChain nodes start (next ∷ between) end = WaitsOn nodes next start × IsChain nodes next between end

-- A node is before another where a chain leads from it to the other.
abbrev pub Before : List Node → ℕ → ℕ → Type 0
Before nodes a b = (between : List ℕ) × IsChain nodes a between b

-- A cycle: nodes, at least one and each once, of which each is waited on by the next, and the last by the
-- first.
abbrev pub IsCycle : List Node → List ℕ → Type 0
IsCycle nodes [] = ⊥
IsCycle nodes (first ∷ rest) = AllPairs (λ a b. a ≢ b) (first ∷ rest) × IsChain nodes first rest first

abbrev pub HasNoCycle : Tables → Type 0
HasNoCycle t = (ks : List ℕ) → IsCycle (graph_of t.nodes) ks → ⊥

-- The nodes' events are all different, and each event that a node waits on is that of some node.
pub record AreLinked (nodes : List Node) : Type 0 where
  pub apart : AllPairs (λ (m : Node) n. m.done ≢ n.done) nodes
  pub linked : (n : Node) (event : ℕ) → Contains nodes n → Contains n.waits event → (m : Node)
      × Contains nodes m × (m.done ≡ event)
