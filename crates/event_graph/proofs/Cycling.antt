-- Cycles, and stuck nodes.
use Rattle.std.proofs.Common.{◌≡◌, ℕ, ◌<◌, true, false, List, [], ◌∷◌, length, get_or, Contains, All, sym, ◌∙◌, subst, inl, inr}
use Rattle.std.proofs.lemmas.Bool.{true≢false}
use Rattle.std.proofs.lemmas.List.Elements.{Contains-get_or}
use Rattle.std.proofs.lemmas.Option.{slice_get_within}
use Rattle.list_lemmas.proofs.lemmas.Contained.{only, Contains-cases, Contains-here}
use Rattle.vocabulary.specs.Prelude.{Node, IsChain, IsCycle}
use Rattle.semantics.specs.ReplayOrder.{is_stuck}

-- What is waited on along a chain is a node.
chain_within : (nodes : List Node) (start : ℕ) (between : List ℕ) (end : ℕ) → IsChain nodes start between end → (k : ℕ)
    → Contains (start ∷ between) k → k < length nodes
chain_within nodes start [] end w k m = subst (λ j. j < length nodes) (sym (only m)) (slice_get_within nodes start w.on w.on_is)
chain_within nodes start (next ∷ between) end chain k m = elim (Contains-cases (next ∷ between) m) [
  | inl is ↦ subst (λ j. j < length nodes) (sym is) (slice_get_within nodes start chain.0.on chain.0.on_is)
  | inr later ↦ chain_within nodes next between end chain.1 k later
]

pub cycle_within : (nodes : List Node) (cycle : List ℕ) → IsCycle nodes cycle → All (λ k. k < length nodes) cycle
cycle_within nodes [] is = absurd is
cycle_within nodes (first ∷ rest) is = λ i d lt.
    let k = get_or (first ∷ rest) i d in
    chain_within nodes first rest first is.1 k (Contains-get_or (first ∷ rest) i d lt)

-- Where no node is stuck, and each node of a cycle would be, there is no cycle.
pub no_cycle : (nodes : List Node) → ((k : ℕ) → k < length nodes → is_stuck nodes k ≡ false)
    → ((cycle : List ℕ) → IsCycle nodes cycle → (k : ℕ) → Contains cycle k → is_stuck nodes k ≡ true)
    → (cycle : List ℕ) → IsCycle nodes cycle → ⊥
no_cycle nodes free stuck [] is = is
no_cycle nodes free stuck (first ∷ rest) is =
    let here : Contains (first ∷ rest) first = Contains-here rest in
    true≢false (sym (stuck (first ∷ rest) is first here) ∙ free first (chain_within nodes first rest first is.1 first here))
