-- Chains of waits, and what marks say of them.
use Rattle.std.proofs.Common.{◌≡◌, ℕ, ◌<◌, ◌≤◌, inl, inr, ◌⊎◌, List, [], ◌∷◌, length, refl, ap, arith}
use Rattle.std.proofs.lemmas.Bool.{lt-ltb, le-ltb}
use Rattle.std.proofs.lemmas.Option.{slice_get_within}
use Rattle.vocabulary.specs.Prelude.{Tables, Node, IsChain, Before, graph_of}
use Rattle.semantics.specs.SerialOrder.{serial_place, by_serial}
use Rattle.semantics.specs.Shown.{run_of, IsKept}
use Rattle.reach_marks.specs.Reached.{Marks, AreMarksOf}

chain_start : (nodes : List Node) (a : ℕ) (between : List ℕ) (b : ℕ) → IsChain nodes a between b → a < length nodes
chain_start nodes a [] b on = slice_get_within nodes a on.on on.on_is
chain_start nodes a (next ∷ between) b chain = slice_get_within nodes a chain.0.on chain.0.on_is

chain_end : (nodes : List Node) (a : ℕ) (between : List ℕ) (b : ℕ) → IsChain nodes a between b → b < length nodes
chain_end nodes a [] b on = slice_get_within nodes b on.by on.by_is
chain_end nodes a (next ∷ between) b chain = chain_end nodes next between b chain.1

-- Nothing is before, or after, a node that is not there.
pub before_none : (marks : Marks) (a b : ℕ) → (length marks.places ≤ a) ⊎ (length marks.places ≤ b) → (nodes : List Node)
    → AreMarksOf nodes marks → Before nodes a b → ⊥
before_none marks a b (inl none) nodes are (between, chain) = omega (arith, none, are.places.each, chain_start nodes a between b chain)
before_none marks a b (inr none) nodes are (between, chain) = omega (arith, none, are.places.each, chain_end nodes a between b chain)

-- The order of two tasks by serial order, the one way and the other.
pub turned : (t : Tables) (a b : ℕ) → serial_place t b < serial_place t a
    → IsKept t (a, b) ≡ Before (graph_of t.nodes) (run_of t b) (run_of t a)
turned t a b lt = ap (λ (p : ℕ × ℕ). Before (graph_of t.nodes) (run_of t p.0) (run_of t p.1)) (order t a b lt)
  where
    order : (t : Tables) (a b : ℕ) → serial_place t b < serial_place t a → by_serial t (a, b) ≡ (b, a)
    order t a b lt = rw (lt-ltb _ _ lt) refl

pub straight : (t : Tables) (a b : ℕ) → serial_place t a ≤ serial_place t b
    → IsKept t (a, b) ≡ Before (graph_of t.nodes) (run_of t a) (run_of t b)
straight t a b le = ap (λ (p : ℕ × ℕ). Before (graph_of t.nodes) (run_of t p.0) (run_of t p.1)) (order t a b le)
  where
    order : (t : Tables) (a b : ℕ) → serial_place t a ≤ serial_place t b → by_serial t (a, b) ≡ (a, b)
    order t a b le = rw (le-ltb _ _ le) refl
