-- What a node waits on.
use Rattle.std.proofs.Common.{◌≡◌, ℕ, ◌<◌, ◌≤◌, arith, true, List, [], length, get_or, Option, Some, is_some, slice_get, Contains, All, ◌↔◌, refl, sym, ap, ◌∙◌, subst, inl, inr}
use Rattle.std.proofs.lemmas.List.Elements.{Contains-get_or}
use Rattle.std.proofs.lemmas.Option.{slice_get-get_or, slice_get_within, get_or_from_slice_get}
use Rattle.vocabulary.specs.Prelude.{Node, AreLinked, WaitsOn}
use Rattle.semantics.specs.ReplayOrder.{done_at, waits_at}
use Rattle.list_lemmas.proofs.lemmas.Firsts.{cases_option}
use Rattle.event_graph.specs.EventPlaces.{AreSources, IsIndexed}
use Rattle.event_graph.proofs.lemmas.Placed.{node_at}
use Rattle.event_graph.proofs.Sourced.{same_node, source_at, source_count}

no_node : Node
no_node = record { done = 0; waits = [] }

waits_here : (nodes : List Node) (k : ℕ) → k < length nodes → (n : Node) × (slice_get nodes k ≡ Some n) × (waits_at nodes k ≡ n.waits)
waits_here nodes k lt = let at = slice_get-get_or nodes k no_node lt in (get_or nodes k no_node, at, rw at refl)

module _ (nodes : List Node) (place : ℕ → Option ℕ) (h : IsIndexed nodes place) where
  pub linked_from : AreLinked nodes
  linked_from = record {
    apart = h.apart;
    linked = λ n event (k, lt, at) (w, less, it).
        let known : All (λ e. is_some (place e) ≡ true) n.waits = rw (slice_get-get_or nodes k n lt, at) at (h.waits k) in
        elim (cases_option (place event)) [
          | inl none ↦ let bad = sym (ap (λ (o : Option ℕ). is_some o) (ap place it ∙ none)) ∙ known w event less in absurd cc
          | inr some ↦ let m = node_at nodes some.0 event (h.places.found event some.0 some.1) in
              (m.0, (some.0, slice_get_within nodes some.0 m.0 m.1, get_or_from_slice_get nodes some.0 m.0 m.0 m.1), m.2)
        ];
  }

-- The nodes that a node waits on are those at the positions of its list.
pub waited : (nodes : List Node) → AreLinked nodes → (k : ℕ) → k < length nodes → (xs : List ℕ) → AreSources nodes k xs → (j : ℕ)
    → Contains xs j ↔ WaitsOn nodes k j
waited nodes linked k lt xs are j =
    let by = waits_here nodes k lt in
    let ws = waits_at nodes k in (
      λ (i, within, is).
          let e = get_or ws i 0 in
          let there : done_at nodes j ≡ Some e =
          ap (done_at nodes) (sym is) ∙ source_at nodes xs ws are i j 0 within in
          let on = node_at nodes j e there in
          let less : i < length ws = subst (λ n. i < n) (source_count nodes xs ws are) within in
          record {
            on = on.0;
            by = by.0;
            on_is = on.1;
            by_is = by.1;
            listed =
                subst (λ d. Contains by.0.waits d) (sym on.2)
                (subst (λ l. Contains l e) by.2 (Contains-get_or ws i 0 less));
          },
      λ w.
          let waits : ws ≡ w.by.waits = rw w.by_is refl in
          let i = w.listed.0 in
          let less : i < length ws = subst (λ l. i < length l) (sym waits) w.listed.1 in
          let within : i < length xs = subst (λ n. i < n) (sym (source_count nodes xs ws are)) less in
          let event : get_or ws i w.on.done ≡ w.on.done = ap (λ l. get_or l i w.on.done) waits ∙ w.listed.2 in
          let here : done_at nodes (get_or xs i j) ≡ Some w.on.done =
          source_at nodes xs ws are i j w.on.done within ∙ ap (λ e. Some e) event in
          (i, within, same_node nodes linked.apart (get_or xs i j) j w.on.done here (rw w.on_is refl)),
    )

-- A position that is no node's waits on nothing.
pub no_waits : (nodes : List Node) (k : ℕ) → length nodes ≤ k → waits_at nodes k ≡ []
no_waits nodes k past = elim (cases_option (slice_get nodes k)) [
  | inl none ↦ rw none refl
  | inr some ↦ absurd (omega (arith, past, slice_get_within nodes k some.0 some.1))
]
