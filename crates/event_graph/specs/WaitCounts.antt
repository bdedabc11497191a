-- How often nodes wait on a node.
use Rattle.std.specs.Prelude.{◌≡◌, ◌==◌, ◌+◌, ◌<◌, ℕ, List, [], ◌∷◌, length, Some, slice_get, if◌then◌else◌}
use Rattle.std.specs.List.{slice_index_or}
use Rattle.vocabulary.specs.Prelude.{Node}
use Rattle.semantics.specs.ReplayOrder.{waits_at}

-- How many times a number is in a list.
abbrev pub times : ℕ → List ℕ → ℕ
times n [] = 0
times n (m ∷ ms) = (if m == n then 1 else 0) + times n ms

-- For each node the nodes that wait on it, each as often as it lists the node's event.
pub record AreWaiters (nodes : List Node) (waiters : List (List ℕ)) : Type 0 where
  pub each : length waiters ≡ length nodes
  pub listed : (k : ℕ) (n : Node) → slice_get nodes k ≡ Some n → (s : ℕ)
      → times s (slice_index_or waiters k []) ≡ times n.done (waits_at nodes s)

-- Node `k` is added to the waiters of each node, as often as `more` says.
pub record AddsWaits (old new : List (List ℕ)) (k : ℕ) (more : ℕ → ℕ) : Type 0 where
  pub each : length new ≡ length old
  pub grown : (q s : ℕ) → q < length old
      → times s (slice_index_or new q []) ≡ times s (slice_index_or old q []) + (if k == s then more q else 0)
