-- Which node, and which operation, a step belongs to.
use Rattle.std.proofs.Common.{map, slice_get, ◌≡◌, ◌≢◌, ℕ, inl, inr, List, [], sym, ap, subst, Some, Contains}
use Rattle.std.specs.Option.{option_map_or}
use Rattle.vocabulary.specs.Prelude.{Move, LogNode, Tables, graph_of, MustPrecede, Step, moves_of, steps_by}
use Rattle.list_lemmas.proofs.lemmas.Contained.{member_map, member_flat, Contains-nil}
use Rattle.list_lemmas.proofs.lemmas.Firsts.{cases_option}

-- The moves of the node at a position.
abbrev pub moves_at : Tables → ℕ → List Move
moves_at t k = option_map_or (λ (n : LogNode). moves_of t n.op) (slice_get t.nodes k) []

-- Its steps.
abbrev pub steps_at : Tables → ℕ → List Step
steps_at t k = map (λ m. record { node = k; move = m }) (moves_at t k)

-- The second of two different steps need not precede the first.
abbrev pub MayFollow : Tables → Step → Step → Type 0
MayFollow t x y = (x ≢ y) × (MustPrecede (graph_of t.nodes) y x → ⊥)

-- A step is of a node, and one of the moves of its operation.
pub record IsOfNode (t : Tables) (x : Step) : Type 0 where
  pub node : LogNode
  pub is_node : slice_get t.nodes x.node ≡ Some node
  pub is_move : Contains (moves_of t node.op) x.move

pub step_at : (t : Tables) (k : ℕ) (x : Step) → Contains (steps_at t k) x → (x.node ≡ k) × Contains (moves_at t x.node) x.move
step_at t k x m =
    let move = member_map (λ m. record { node = k; move = m }) (moves_at t k) x m in
    (ap (λ (x : Step). x.node) move.2, subst (λ (x : Step). Contains (moves_at t x.node) x.move) (sym move.2) move.1)

pub of_node : (t : Tables) (ks : List ℕ) (x : Step) → Contains (steps_by t ks) x → IsOfNode t x
of_node t ks x m =
    let at = member_flat (steps_at t) ks x m in
    let move = (step_at t at.0 x at.2).1 in
    elim (cases_option (slice_get t.nodes x.node)) [
      | inl none ↦ absurd (Contains-nil (rw none at move))
      | inr some ↦ record { node = some.0; is_node = some.1; is_move = rw some.1 at move }
    ]
