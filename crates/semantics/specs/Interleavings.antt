-- The orders in which the steps of a run may have been taken.
use Rattle.std.specs.Prelude.{◌≡◌, ◌≢◌, Bool, true, false, List, Contains, AllPairs, ◌⊎◌}
use Rattle.semantics.specs.declared.moves.Move.{Move}
use Rattle.semantics.specs.declared.moves.Move.TheVariants.{Read}
use Rattle.semantics.specs.Tables.{Tables}
use Rattle.semantics.specs.Events.{Node, graph_of, Before}
use Rattle.semantics.specs.Steps.{Step, steps}

-- Whether a move is a task's read.
abbrev pub is_read : Move → Bool
is_read (Read task req cell) = true
is_read _ = false

-- A step has to be taken before another where its node is before the other's, or where both are of one node,
-- and the first is a read and the other none.
abbrev pub MustPrecede : List Node → Step → Step → Type 0
MustPrecede nodes x y = Before nodes x.node y.node
    ⊎ ((x.node ≡ y.node) × (is_read x.move ≡ true) × (is_read y.move ≡ false))

-- An interleaving: each step of the log once, and none after a step that it has to precede.
pub record IsInterleaving (t : Tables) (xs : List Step) : Type 0 where
  pub once : AllPairs (λ x y. x ≢ y) xs
  pub in_log : (x : Step) → Contains xs x → Contains (steps t) x
  pub whole : (x : Step) → Contains (steps t) x → Contains xs x
  pub in_order : AllPairs (λ x y. MustPrecede (graph_of t.nodes) y x → ⊥) xs

-- Two steps of the log that are different, and of which neither has to be taken before the other.
pub record AreUnordered (t : Tables) (x y : Step) : Type 0 where
  pub differ : x ≢ y
  pub one_in : Contains (steps t) x
  pub other_in : Contains (steps t) y
  pub not_before : MustPrecede (graph_of t.nodes) x y → ⊥
  pub not_after : MustPrecede (graph_of t.nodes) y x → ⊥
