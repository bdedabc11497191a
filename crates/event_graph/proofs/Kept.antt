-- What a graph keeps of linked nodes.
use Rattle.std.proofs.Common.{◌≡◌, ◌∙◌, ℕ, zero, suc, ◌<◌, ◌^◌, true, List, [], ◌∷◌, length, map, nat_eq, get_or, is_some, Option, Some, All, arith, sym, ap, subst, inl, inr}
use Rattle.std.specs.List.{position_from}
use Rattle.std.specs.Option.{IsSomeAnd}
use Rattle.std.proofs.lemmas.List.{get_or-map, length-map}
use Rattle.std.proofs.lemmas.Option.{get_or_from_slice_get, slice_get-get_or, slice_get_within}
use Rattle.list_lemmas.proofs.lemmas.Firsts.{cases_option}
use Rattle.vocabulary.specs.Prelude.{AreLinked, Node}
use Rattle.semantics.specs.ReplayOrder.{waits_at}
use Rattle.event_graph.specs.EventPlaces.{AreKept, ArePlaces, IsIndexed, nodes_by, place_or_zero}
use Rattle.event_graph.proofs.Nodes.{nodes_kept}
use Rattle.event_graph.proofs.lemmas.Placed.{node_at, places_from, waits_known}

abbrev place_lists : (ℕ → Option ℕ) → List Node → List (List ℕ)
place_lists place nodes = map (λ (n : Node). map (place_or_zero place) n.waits) nodes

lists_within : (place : ℕ → Option ℕ) (m : ℕ) (nodes : List Node)
    → All (λ (n : Node). All (λ e. place_or_zero place e < m) n.waits) nodes → (k : ℕ) → All (λ p. p < m) (get_or (place_lists place nodes) k [])
lists_within place m [] are k = λ i d lt. absurd (omega (arith, lt))
lists_within place m (n ∷ nodes) are zero = λ i d lt.
    let less : i < length n.waits = omega (arith, lt, length-map n.waits (place_or_zero place)) in
    subst (λ p. p < m) (sym (get_or-map (place_or_zero place) n.waits i 0 d less)) (are 0 n (omega arith) i 0 less)
lists_within place m (n ∷ nodes) are (suc k) = lists_within place m nodes (λ i d lt. are (suc i) d (omega (arith, lt))) k

module _ (nodes : List Node) (linked : AreLinked nodes) (few : length nodes < 2 ^ 32) (done : List ℕ)
    (done_are : done ≡ map (λ (n : Node). n.done) nodes) (place : ℕ → Option ℕ) (first : (e : ℕ) → place e ≡ position_from (nat_eq e) 0 done) where
  places : ArePlaces nodes place
  places = places_from nodes linked.apart place (λ e. first e ∙ ap (position_from (nat_eq e) 0) done_are)

  -- The node of an event whose place is known.
  placed : (e : ℕ) → is_some (place e) ≡ true → (p : ℕ) × (place e ≡ Some p) × (p < length nodes) × (get_or done p 0 ≡ e)
  placed e known = elim (cases_option (place e)) [
    | inl none ↦ let bad = rw none at known in absurd cc
    | inr some ↦
        let n = node_at nodes some.0 e (places.found e some.0 some.1) in
        let lt = slice_get_within nodes some.0 n.0 n.1 in
        let event : get_or (map (λ (m : Node). m.done) nodes) some.0 0 ≡ e =
        get_or-map (λ (m : Node). m.done) nodes some.0 n.0 0 lt
        ∙ (ap (λ (m : Node). m.done) (get_or_from_slice_get nodes some.0 n.0 n.0 n.1) ∙ n.2) in
        (some.0, some.1, lt, ap (λ (l : List ℕ). get_or l some.0 0) done_are ∙ event)
  ]

  known : (k : ℕ) → All (λ e. is_some (place e) ≡ true) (waits_at nodes k)
  known = waits_known nodes linked place places

  pub waits_placed : (k : ℕ) → All (λ e. IsSomeAnd (place e) (λ p. p < 2 ^ 32)) (waits_at nodes k)
  waits_placed k i d lt =
      let at = placed (get_or (waits_at nodes k) i d) (known k i d lt) in
      rw at.1 (omega (arith, at.2, few))

  each_node : (P : ℕ → Type 0) → ((e : ℕ) → is_some (place e) ≡ true → P e) → All (λ (n : Node). All P n.waits) nodes
  each_node P holds k d lt i c less =
      let waits : All (λ e. is_some (place e) ≡ true) (get_or nodes k d).waits = rw (slice_get-get_or nodes k d lt) at (known k) in
      holds (get_or (get_or nodes k d).waits i c) (waits i c less)

  pub nodes_are : (lists : List (List ℕ)) → lists ≡ place_lists place nodes → nodes_by done done lists ≡ nodes
  nodes_are lists lists_are = ap (λ l. nodes_by done l lists) done_are
      ∙ (ap (nodes_by done (map (λ (n : Node). n.done) nodes)) lists_are
      ∙ nodes_kept done place nodes (each_node (λ e. get_or done (place_or_zero place e) 0 ≡ e)
      (λ e there. let at = placed e there in rw at.1 at.3)))

  pub kept : (lists : List (List ℕ)) → lists ≡ place_lists place nodes → AreKept done lists place
  kept lists lists_are =
      let count : length done ≡ length nodes = ap (λ (l : List ℕ). length l) done_are ∙ length-map nodes (λ (n : Node). n.done) in
      record {
        few = omega (arith, few, count);
        each = ap (λ (l : List (List ℕ)). length l) lists_are
            ∙ (length-map nodes (λ (n : Node). map (place_or_zero place) n.waits) ∙ sym count);
        within = λ k. rw (lists_are, count) (lists_within place (length nodes) nodes
            (each_node (λ e. place_or_zero place e < length nodes) (λ e there. let at = placed e there in rw at.1 at.2)) k);
        indexed = subst (λ ns. IsIndexed ns place) (sym (nodes_are lists lists_are))
            (record { apart = linked.apart; places = places; waits = known });
      }
