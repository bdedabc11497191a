-- The spare waits of a graph, listed node by node.
use Rattle.std.specs.Prelude.{◌↔◌, ℕ, ◌<◌, ◌≤◌, ◌+◌, Bool, List, [], ◌∷◌, length, take, sum_by, Contains, AllPairs, if◌then◌else◌}
use Rattle.vocabulary.specs.Prelude.{ListedWait, Node}
use Rattle.semantics.specs.Spare.{IsSpare, IsAhead}

-- How many waits nodes list, each as often as it is listed.
abbrev pub listed_count : List Node → ℕ
listed_count nodes = sum_by (λ (n : Node). length n.waits) nodes

-- These are the spare waits of the nodes before this one: no more than those nodes list.
pub record AreUpTo (nodes : List Node) (node : ℕ) (list : List ListedWait) : Type 0 where
  pub each : (w : ListedWait) → Contains list w ↔ (IsSpare nodes w.node w.k × (w.node < node))
  pub in_order : AllPairs IsAhead list
  pub few : length list ≤ listed_count (take node nodes)

-- The waits of a node that are marked, where the first mark is that of place `k`.
abbrev pub marked : ℕ → ℕ → List Bool → List ListedWait
marked node k [] = []
marked node k (m ∷ ms) = if m then record { node = node; k = k } ∷ marked node (k + 1) ms
    else marked node (k + 1) ms
