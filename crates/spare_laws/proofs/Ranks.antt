-- Where each node stands in the replay order: behind all that are before it.
use Rattle.std.proofs.Common.{◌≡◌, ◌≢◌, ℕ, suc, ◌<◌, ◌==◌, true, false, List, [], ◌∷◌, ◌++◌, length, inl, inr, refl, sym, subst, arith, Contains, ◌↔◌, if◌then◌else◌, AllPairs}
use Rattle.std.proofs.lemmas.Bool.{eq-eqb, ne_eqb, cases_eq, false_from_ne_true}
use Rattle.std.proofs.lemmas.Option.{slice_get_within}
use Rattle.list_lemmas.proofs.lemmas.Contained.{Contains-first, Contains-nil, Contains-cases, Contains-later, Contains-here}
use Rattle.vocabulary.specs.Prelude.{Node, WaitsOn, IsCycle}
use Rattle.semantics.specs.ReplayOrder.{replay_order, is_stuck}
use Rattle.list_lemmas.proofs.lemmas.Pairs.{AllPairs-parts}
use Rattle.list_lemmas.proofs.lemmas.Parts.{split_at}

-- The place of a number in a list.
abbrev pub place_in : List ℕ → ℕ → ℕ
place_in [] k = 0
place_in (x ∷ xs) k = if x == k then 0 else suc (place_in xs k)

place_front : (front rest : List ℕ) (j : ℕ) → Contains front j → place_in (front ++ rest) j < length front
place_front [] rest j m = absurd (Contains-nil m)
place_front (x ∷ front) rest j m = elim (cases_eq x j) [
  | inl here ↦ rw (eq-eqb x j here) (omega arith)
  | inr not_here ↦ elim (Contains-cases front m) [
    | inl is ↦ absurd (not_here (sym is))
    | inr later ↦ rw (ne_eqb x j not_here) (omega (arith, place_front front rest j later))
  ]
]

place_at : (front back : List ℕ) (k : ℕ) → (Contains front k → ⊥) → place_in (front ++ k ∷ back) k ≡ length front
place_at [] back k out = rw (eq-eqb k k refl) refl
place_at (x ∷ front) back k out =
    rw (ne_eqb x k (λ e. out (Contains-first front (sym e)))) (omega (arith, place_at front back k (λ m. out (Contains-later front m))))

-- What every number is that rises along waits.
pub record Rises (nodes : List Node) : Type 0 where
  pub rank : ℕ → ℕ
  pub up : (b a : ℕ) → WaitsOn nodes b a → rank a < rank b

pub rises : (nodes : List Node) → ((cycle : List ℕ) → IsCycle nodes cycle → ⊥) → AllPairs (λ a b. a ≢ b) (replay_order nodes)
    → ((k : ℕ) → Contains (replay_order nodes) k ↔ ((k < length nodes) × (is_stuck nodes k ≡ false)))
    → ((front : List ℕ) (k : ℕ) (back : List ℕ) → replay_order nodes ≡ front ++ k ∷ back → (j : ℕ) → WaitsOn nodes k j → Contains front j)
    → ((k : ℕ) → k < length nodes → is_stuck nodes k ≡ true → (c : List ℕ) × IsCycle nodes c) → Rises nodes
rises nodes free once listed behind stuck = record {
  rank = place_in (replay_order nodes);
  up = λ b a w.
      let lt = slice_get_within nodes b w.by w.by_is in
      let independent = false_from_ne_true (is_stuck nodes b) (λ s. let c = stuck b lt s in free c.0 c.1) in
      let cut = split_at (replay_order nodes) b ((listed b).1 (lt, independent)) in
      let front = behind cut.0 b cut.1 cut.2 a w in
      let apart = subst (AllPairs (λ a b. a ≢ b)) cut.2 once in
      let parts = AllPairs-parts (λ a b. a ≢ b) cut.0 (b ∷ cut.1) apart in
      let at = place_at cut.0 cut.1 b (λ m. parts.2 b b m (Contains-here cut.1) refl) in
      let less = place_front cut.0 (b ∷ cut.1) a front in
      subst (λ xs. place_in xs a < place_in xs b) (sym cut.2) (omega (arith, at, less));
}
