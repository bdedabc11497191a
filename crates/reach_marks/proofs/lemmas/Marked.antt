-- Marks of a graph, without any that were made: what no marks allow is not so.
use Rattle.std.proofs.Common.{◌≡◌, ℕ, zero, suc, ◌<◌, ◌==◌, ◌↔◌, Bool, true, false, List, [], length, map, get_or, Contains, arith, refl, sym, ap, ◌∙◌, subst, inl, inr, if◌then◌else◌}
use Rattle.std.specs.List.{range_with_len}
use Rattle.std.proofs.lemmas.Bool.{cases_eq, cases_lt, eq-eqb, ne_eqb, both_ways, false≢true}
use Rattle.std.proofs.lemmas.List.{get_or_default, get_or_past}
use Rattle.std.proofs.lemmas.List.FromFn.{get_or-map-range_with_len, length-map-range_with_len}
use Rattle.vocabulary.specs.Prelude.{Node, Before, AreLinked}
use Rattle.log_laws.proofs.lemmas.Rounds.{in_turn}
use Rattle.event_graph.specs.Inverse.{AreInverse}
use Rattle.event_graph.specs.Orders.{IsOrderOf}
use Rattle.event_graph.proofs.lemmas.Whole.{order_whole}
use Rattle.reach_marks.specs.Places.{ArePlacesIn}
use Rattle.reach_marks.specs.Reached.{Marks, AreMarksOf, before_in}
use Rattle.reach_marks.proofs.Replayed.{taken_of, placed_in}

-- One of each kind may be chosen for each of so many numbers, where there is none of which it cannot be.
chosen : {A : Type 0} (P : ℕ → A → Type 0) (d : A) → ((k : ℕ) → ((a : A) → P k a → ⊥) → ⊥) → (n : ℕ)
    → ((f : ℕ → A) → ((k : ℕ) → k < n → P k (f k)) → ⊥) → ⊥
chosen P d some zero h = h (λ k. d) (λ k lt. absurd (omega (arith, lt)))
chosen P d some (suc n) h = chosen P d some n (λ f each. some n (λ a is. h (λ k. if k == n then a else f k) (λ k lt. elim (cases_eq k n) [
  | inl same ↦ rw (eq-eqb k n same) (subst (λ j. P j a) (sym same) is)
  | inr other ↦ rw (ne_eqb k n other) (each k (omega (arith, lt, other)))
])))

-- Whether something is so, as a truth value.
decided : (R : Type 0) → ((b : Bool) → ((b ≡ true) ↔ R) → ⊥) → ⊥
decided R h = h false ((λ e. absurd (false≢true e)), λ r. absurd (h true ((λ e. r), λ s. refl)))

module _ (nodes : List Node) where
  -- A table of which node is before which.
  tabled : ((f : ℕ → ℕ → Bool) → ((b : ℕ) → b < length nodes → (a : ℕ) → a < length nodes → (f b a ≡ true) ↔ Before nodes a b) → ⊥) → ⊥
  tabled h = chosen (λ b (row : ℕ → Bool). (a : ℕ) → a < length nodes → (row a ≡ true) ↔ Before nodes a b) (λ a. false)
      (λ b. chosen (λ a (is : Bool). (is ≡ true) ↔ Before nodes a b) false (λ a. decided (Before nodes a b)) (length nodes)) (length nodes) h

  module _ (places : List ℕ) (f : ℕ → ℕ → Bool) where
    abbrev row : ℕ → List Bool
    row b = map (f b) (range_with_len 0 (length nodes))

    abbrev marks : Marks
    marks = record { places = places; before = map row (range_with_len 0 (length nodes)) }

    seen : (a b : ℕ) → a < length nodes → b < length nodes → before_in marks a b ≡ f b a
    seen a b lt less = ap (λ (r : List Bool). get_or r a false) (get_or-map-range_with_len row 0 (length nodes) b b [] less (omega arith))
        ∙ get_or-map-range_with_len (f b) 0 (length nodes) a a false lt (omega arith)

    seen_within : (a b : ℕ) → before_in marks a b ≡ true → (a < length nodes) × (b < length nodes)
    seen_within a b e = elim (cases_lt b (length nodes)) [
      | inr past ↦
          let none : get_or marks.before b [] ≡ [] = get_or_past marks.before b []
          (omega (arith, past, length-map-range_with_len row 0 (length nodes))) in
          absurd (both_ways (before_in marks a b) (ap (λ (r : List Bool). get_or r a false) none) e)
      | inl less ↦ elim (cases_lt a (length nodes)) [
        | inl lt ↦ (lt, less)
        | inr past ↦
            let none : get_or (row b) a false ≡ false = get_or_past (row b) a false
            (omega (arith, past, length-map-range_with_len (f b) 0 (length nodes))) in
            absurd (both_ways (before_in marks a b) (ap (λ (r : List Bool). get_or r a false)
            (get_or-map-range_with_len row 0 (length nodes) b b [] less (omega arith)) ∙ none) e)
      ]
    ]

module _ (nodes : List Node) (order places : List ℕ) (is : IsOrderOf nodes order) (linked : AreLinked nodes) (h : AreInverse order places) where
  whole : (k : ℕ) → k < length nodes → Contains order k
  whole = order_whole nodes order is linked

  placed : ArePlacesIn (length nodes) order places
  placed = placed_in nodes order places h is.replayed whole

  -- A node stands where its place says.
  at_place : (k : ℕ) → k < length nodes → (get_or places k 0 < length order) × (get_or order (get_or places k 0) 0 ≡ k)
  at_place k lt =
      let at = whole k lt in
      let here : get_or order at.0 0 ≡ k = get_or_default order at.0 0 k at.1 ∙ at.2 in
      let place : get_or places k 0 ≡ at.0 = ap (λ j. get_or places j 0) (sym here) ∙ placed.placed at.0 at.1 in
      rw place (at.1, here)

  earlier : (a b : ℕ) → a < length nodes → b < length nodes → Before nodes a b → get_or places a 0 < get_or places b 0
  earlier a b lt less before = elim (cases_lt (get_or places a 0) (get_or places b 0)) [
    | inl first ↦ first
    | inr not_first ↦
        let pa = at_place a lt in
        let pb = at_place b less in
        absurd (in_turn (taken_of nodes order is.replayed) linked (get_or places b 0) (get_or places a 0) 0 (omega (arith, not_first)) pa.0
        (rw (pa.1, pb.1) before))
  ]

  -- What no marks of a graph allow is not so.
  pub by_marks : ((marks : Marks) → AreMarksOf nodes marks → ⊥) → ⊥
  by_marks none = tabled nodes by_table
    where
      by_table : (f : ℕ → ℕ → Bool)
          → ((b : ℕ) → b < length nodes → (a : ℕ) → a < length nodes → (f b a ≡ true) ↔ Before nodes a b) → ⊥
      by_table f exact = none (marks nodes places f) (record {
        places = subst (λ ks. ArePlacesIn (length nodes) ks places) is.replayed placed;
        within = seen_within nodes places f;
        exact = λ a b lt less. (from a b lt less, λ before. seen nodes places f a b lt less ∙ (exact b less a lt).1 before);
        later = λ a b e. let w = seen_within nodes places f a b e in earlier a b w.0 w.1 (from a b w.0 w.1 e);
      })
        where
          from : (a b : ℕ) → a < length nodes → b < length nodes → before_in (marks nodes places f) a b ≡ true → Before nodes a b
          from a b lt less e = (exact b less a lt).0 (sym (seen nodes places f a b lt less) ∙ e)
