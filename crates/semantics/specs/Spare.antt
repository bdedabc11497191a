-- Listed waits that others imply, and graphs without some of their waits. Nodes are named by position, and
-- waits by their places in the list of their node, from 0.
use Rattle.std.specs.Prelude.{◌≡◌, ◌↔◌, ℕ, ◌<◌, ◌+◌, ◌==◌, ◌&&◌, Bool, List, [], ◌∷◌, Some, Contains, AllPairs, take, slice_get, ◌⊎◌, if◌then◌else◌}
use Rattle.std.specs.List.{list_any}
use Rattle.semantics.specs.declared.waits.ListedWait.{ListedWait}
use Rattle.semantics.specs.Events.{Node, WaitsOn, Before}
use Rattle.semantics.specs.ReplayOrder.{waits_at, done_at}

-- An event's node is before another node that this one waits on.
pub record IsBeforeAnother (nodes : List Node) (node event : ℕ) : Type 0 where
  pub on : ℕ
  pub other : ℕ
  pub done : done_at nodes on ≡ Some event
  pub waits : WaitsOn nodes node other
  pub before : Before nodes on other

-- A listed wait is spare where its event stands earlier in the same list too, or where its event's node is
-- before the node of another event of the list. (Where there is no cycle, no node is before itself.)
pub record IsSpare (nodes : List Node) (node k : ℕ) : Type 0 where
  pub event : ℕ
  pub listed : slice_get (waits_at nodes node) k ≡ Some event
  pub implied : Contains (take k (waits_at nodes node)) event ⊎ IsBeforeAnother nodes node event

-- One listed wait stands before another: by their nodes, and then by their places.
abbrev pub IsAhead : ListedWait → ListedWait → Type 0
IsAhead v w = (v.node < w.node) ⊎ ((v.node ≡ w.node) × (v.k < w.k))

-- These are the spare waits, each once, by nodes and then by places.
pub record AreSpareWaits (nodes : List Node) (list : List ListedWait) : Type 0 where
  pub each : (w : ListedWait) → Contains list w ↔ IsSpare nodes w.node w.k
  pub in_order : AllPairs IsAhead list

-- ---- Graphs without some of their waits.

-- Whether a listed wait is one of these.
abbrev pub is_among : List ListedWait → ℕ → ℕ → Bool
is_among list node k = list_any (λ (w : ListedWait). (w.node == node) && (w.k == k)) list

-- A node's waits but those that are left out, where the first stands at place `k`.
abbrev pub waits_left : (ℕ → Bool) → ℕ → List ℕ → List ℕ
waits_left out k [] = []
waits_left out k (w ∷ ws) = if out k then waits_left out (k + 1) ws else w ∷ waits_left out (k + 1) ws

-- The nodes but for the waits that are left out, where the first stands at position `i`.
abbrev pub nodes_left : (ℕ → ℕ → Bool) → ℕ → List Node → List Node
nodes_left out i [] = []
nodes_left out i (n ∷ ns) = record { done = n.done; waits = waits_left (out i) 0 n.waits }
    ∷ nodes_left out (i + 1) ns

-- The nodes without these listed waits.
abbrev pub without : List ListedWait → List Node → List Node
without list nodes = nodes_left (is_among list) 0 nodes

-- The same nodes are before the same ones in two graphs.
abbrev pub HaveSameBefore : List Node → List Node → Type 0
HaveSameBefore nodes others = (a b : ℕ) → Before nodes a b ↔ Before others a b
