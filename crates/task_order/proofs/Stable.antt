-- Whether a node is before another can be decided, so what cannot fail to be so is so.
use Rattle.std.proofs.Common.{◌≡◌, ℕ, zero, suc, ◌+◌, ◌<◌, ◌≤◌, ◌&&◌, ◌||◌, Bool, true, false, inl, inr, List, [], ◌∷◌, length, get_or, Some, Contains, arith, sym, ap, ◌∙◌, subst}
use Rattle.std.specs.List.{list_any}
use Rattle.std.proofs.lemmas.Bool.{cases_Bool, cases_lt, and_parts, and_from, or_cases, or_left, or_right, eqb-true, true≢false, false≢true}
use Rattle.std.proofs.lemmas.Bool.Decides.{nat_tests}
use Rattle.std.proofs.lemmas.List.{get_or_default}
use Rattle.std.proofs.lemmas.Option.{slice_get_cases, slice_get_within, slice_get-get_or, get_or_from_slice_get}
use Rattle.vocabulary.specs.Prelude.{Node, WaitsOn, IsChain, Before, AreLinked}
use Rattle.semantics.specs.ReplayOrder.{positions, waits_at, has_event}
use Rattle.list_lemmas.proofs.lemmas.Contained.{Contains-nil, any_at, any_found}
use Rattle.list_lemmas.proofs.lemmas.Ranges.{number_in}
use Rattle.log_laws.proofs.lemmas.Rounds.{AreTaken, replay, in_turn}
use Rattle.event_graph.specs.Inverse.{AreInverse}
use Rattle.event_graph.specs.Orders.{IsOrderOf}
use Rattle.event_graph.proofs.lemmas.Whole.{order_whole}

listed_wait : (nodes : List Node) (later earlier event : ℕ) → Contains (waits_at nodes later) event → has_event nodes event earlier ≡ true
    → WaitsOn nodes later earlier
listed_wait nodes later earlier event m has = elim (slice_get_cases nodes later).1 [
  | inr none ↦ absurd (Contains-nil (rw none.1 at m))
  | inl by ↦ elim (slice_get_cases nodes earlier).1 [
    | inr none ↦ absurd (false≢true (rw none.1 at has))
    | inl on ↦ record {
      on = on.0;
      by = by.0;
      on_is = on.2;
      by_is = by.2;
      listed = subst (Contains by.0.waits) (sym (eqb-true on.0.done event (rw on.2 at has))) (rw by.2 at m);
    }
  ]
]

-- Whether the later node waits on the earlier one.
waits : List Node → ℕ → ℕ → Bool
waits nodes later earlier = list_any (λ event. has_event nodes event earlier) (waits_at nodes later)

waits_right : (nodes : List Node) (later earlier : ℕ) → waits nodes later earlier ≡ true → WaitsOn nodes later earlier
unfolding waits
waits_right nodes later earlier e =
    let found = any_found (λ event. has_event nodes event earlier) (waits_at nodes later) e in
    listed_wait nodes later earlier found.0 found.1 found.2

waits_all : (nodes : List Node) (later earlier : ℕ) → WaitsOn nodes later earlier → waits nodes later earlier ≡ true
unfolding waits
waits_all nodes later earlier w = any_at (λ event. has_event nodes event earlier) (waits_at nodes later) w.on.done (rw w.by_is w.listed)
    (grind (arith, nat_tests, w.on_is))

-- Whether a chain of no more than so many waits leads from one node to another.
leads : ℕ → List Node → ℕ → ℕ → Bool
leads zero nodes a b = false
leads (suc n) nodes a b = waits nodes b a || list_any (λ k. waits nodes k a && leads n nodes k b) (positions nodes)

leads_right : (n : ℕ) (nodes : List Node) (a b : ℕ) → leads n nodes a b ≡ true → Before nodes a b
unfolding leads
leads_right zero nodes a b e = absurd (false≢true e)
leads_right (suc n) nodes a b e =
    elim (or_cases (waits nodes b a) (list_any (λ k. waits nodes k a && leads n nodes k b) (positions nodes)) e) [
      | inl once ↦ ([], waits_right nodes b a once)
      | inr more ↦
          let found = any_found (λ k. waits nodes k a && leads n nodes k b) (positions nodes) more in
          let both = and_parts (waits nodes found.0 a) (leads n nodes found.0 b) found.2 in
          let rest = leads_right n nodes found.0 b both.1 in
          (found.0 ∷ rest.0, (waits_right nodes found.0 a both.0, rest.1))
    ]

module _ (nodes : List Node) (order places : List ℕ) (is : IsOrderOf nodes order) (linked : AreLinked nodes) (h : AreInverse order places) where
  -- A node stands where its place says.
  at_place : (k : ℕ) → k < length nodes → (get_or places k 0 < length order) × (get_or order (get_or places k 0) 0 ≡ k)
  at_place k lt =
      let at = order_whole nodes order is linked k lt in
      let there = h.back at.0 k (slice_get-get_or order at.0 k at.1 ∙ ap (λ j. Some j) at.2) in
      rw (get_or_from_slice_get places k at.0 0 there) (at.1, get_or_default order at.0 0 k at.1 ∙ at.2)

  taken : AreTaken nodes order
  taken = subst (AreTaken nodes) (sym is.replayed) (replay nodes).taken

  -- What a node waits on stands in front of it.
  rises : (a b : ℕ) → WaitsOn nodes b a → (get_or places a 0 < get_or places b 0) × (get_or places b 0 < length order)
  rises a b w =
      let pa = at_place a (slice_get_within nodes a w.on w.on_is) in
      let pb = at_place b (slice_get_within nodes b w.by w.by_is) in
      elim (cases_lt (get_or places a 0) (get_or places b 0)) [
        | inl first ↦ (first, pb.0)
        | inr not_first ↦ absurd (in_turn taken linked (get_or places b 0) (get_or places a 0) 0
            (omega (arith, not_first)) pa.0 (rw (pa.1, pb.1) ([], w)))
      ]

  leads_all : (n a : ℕ) (between : List ℕ) (b : ℕ) → IsChain nodes a between b → length order ≤ get_or places a 0 + n
      → leads n nodes a b ≡ true
  unfolding leads
  leads_all zero a [] b w room = absurd (omega (arith, rises a b w, room))
  leads_all zero a (next ∷ between) b chain room = absurd (omega (arith, rises a next chain.0, room))
  leads_all (suc n) a [] b w room = or_left (waits nodes b a) _ (waits_all nodes b a w)
  leads_all (suc n) a (next ∷ between) b chain room = or_right (waits nodes b a) _
      (any_at (λ k. waits nodes k a && leads n nodes k b) (positions nodes) next
      (number_in (length nodes) next (slice_get_within nodes next chain.0.by chain.0.by_is))
      (and_from (waits nodes next a) (leads n nodes next b) (waits_all nodes next a chain.0)
      (leads_all n next between b chain.1 (omega (arith, rises a next chain.0, room)))))

-- What cannot fail to be before a node is before it.
pub stable : (nodes : List Node) (order places : List ℕ) → IsOrderOf nodes order → AreLinked nodes → AreInverse order places
    → (a b : ℕ) → ((Before nodes a b → ⊥) → ⊥) → Before nodes a b
stable nodes order places is linked h a b never_not = elim (cases_Bool (leads (length order) nodes a b)) [
  | inl leading ↦ leads_right (length order) nodes a b leading
  | inr not_leading ↦ absurd (never_not (λ before. true≢false
      (sym (leads_all nodes order places is linked h (length order) a before.0 b before.1 (omega arith)) ∙ not_leading)))
]
