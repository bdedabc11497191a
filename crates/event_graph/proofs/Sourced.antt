-- The nodes that a node waits on, by their positions and by their events.
use Rattle.std.proofs.Common.{◌≡◌, ◌≢◌, ◌∙◌, ℕ, suc, ◌<◌, ◌==◌, false, List, [], ◌∷◌, length, map, nat_eq, drop, get_or, Option, Some, None, option_map, unwrap_or, slice_get, All, AllPairs, arith, refl, sym, ap, subst, inl, inr}
use Rattle.std.specs.List.{list_any, position_from}
use Rattle.std.proofs.lemmas.Bool.{cases_eq, eq-eqb, ne_eqb}
use Rattle.std.proofs.lemmas.Bool.Decides.{nat_tests}
use Rattle.std.proofs.lemmas.List.{get_or-map, length-map}
use Rattle.std.proofs.lemmas.Option.{same_Some, slice_get-get_or, slice_get_within, get_or_from_slice_get}
use Rattle.list_lemmas.proofs.lemmas.Firsts.{cases_option}
use Rattle.vocabulary.specs.Prelude.{Node}
use Rattle.semantics.specs.ReplayOrder.{done_at, has_event, waits_at}
use Rattle.event_graph.specs.EventPlaces.{AreSources, IsBehind}
use Rattle.event_graph.specs.Orders.{IsWait}
use Rattle.event_graph.specs.WaitCounts.{times}
use Rattle.event_graph.proofs.lemmas.Placed.{node_at, places_from}

abbrev Events : List Node → List ℕ → List ℕ → Type 0
Events nodes xs ws = map (done_at nodes) xs ≡ map (λ e. Some e) ws

first_event : (nodes : List Node) (x w : ℕ) (xs ws : List ℕ) → Events nodes (x ∷ xs) (w ∷ ws) → done_at nodes x ≡ Some w
first_event nodes x w xs ws e = ap (λ (l : List (Option ℕ)). get_or l 0 None) e

other_events : (nodes : List Node) (x w : ℕ) (xs ws : List ℕ) → Events nodes (x ∷ xs) (w ∷ ws) → Events nodes xs ws
other_events nodes x w xs ws e = ap (λ (l : List (Option ℕ)). drop 1 l) e

pub source_count : (nodes : List Node) (xs ws : List ℕ) → Events nodes xs ws → length xs ≡ length ws
source_count nodes xs ws e = sym (length-map xs (done_at nodes)) ∙ (ap (λ (l : List (Option ℕ)). length l) e ∙ length-map ws (λ w. Some w))

-- The position in a place is that of the event's node.
pub source_at : (nodes : List Node) (xs ws : List ℕ) → Events nodes xs ws → (i d c : ℕ) → i < length xs
    → done_at nodes (get_or xs i d) ≡ Some (get_or ws i c)
source_at nodes xs ws e i d c lt =
    sym (get_or-map (done_at nodes) xs i d None lt) ∙ (ap (λ (l : List (Option ℕ)). get_or l i None) e
    ∙ get_or-map (λ w. Some w) ws i c None (subst (λ n. i < n) (source_count nodes xs ws e) lt))

pub sources_within : (nodes : List Node) (xs ws : List ℕ) → Events nodes xs ws → All (λ p. p < length nodes) xs
sources_within nodes xs ws e i d lt =
    let n = node_at nodes (get_or xs i d) (get_or ws i 0) (source_at nodes xs ws e i d 0 lt) in
    slice_get_within nodes (get_or xs i d) n.0 n.1

-- What a node lists in a place.
pub wait_found : (nodes : List Node) (k : ℕ) (xs : List ℕ) → AreSources nodes k xs → (i on : ℕ) → slice_get xs i ≡ Some on → IsWait nodes k i on
wait_found nodes k xs are i on at =
    let ws = waits_at nodes k in
    let lt = slice_get_within xs i on at in
    record {
      event = get_or ws i 0;
      listed = slice_get-get_or ws i 0 (subst (λ n. i < n) (source_count nodes xs ws are) lt);
      done = ap (done_at nodes) (sym (get_or_from_slice_get xs i on 0 at)) ∙ source_at nodes xs ws are i 0 0 lt;
    }

-- Nodes that wait on positions below theirs wait on earlier nodes.
pub behind : (nodes : List Node) (k : ℕ) (xs : List ℕ) → AreSources nodes k xs → All (λ p. p < k) xs → All (IsBehind nodes k) (waits_at nodes k)
behind nodes k xs are below i d lt =
    let there = subst (λ n. i < n) (sym (source_count nodes xs (waits_at nodes k) are)) lt in
    (get_or xs i 0, below i 0 there, source_at nodes xs (waits_at nodes k) are i 0 d there)

module _ (nodes : List Node) (apart : AllPairs (λ (m : Node) (n : Node). m.done ≢ n.done) nodes) where
  pub same_node : (p q e : ℕ) → done_at nodes p ≡ Some e → done_at nodes q ≡ Some e → p ≡ q
  same_node p q e there here =
      let place = λ (event : ℕ). position_from (nat_eq event) 0 (map (λ (n : Node). n.done) nodes) in
      let places = places_from nodes apart place (λ event. refl) in
      same_Some p q (sym (places.known e p there) ∙ places.known e q here)

  -- Whether a node has an event is whether it is the event's node.
  has_source : (x w j : ℕ) → done_at nodes x ≡ Some w → has_event nodes w j ≡ (x == j)
  has_source x w j at = elim (cases_eq x j) [
    | inl same ↦ ap (λ o. unwrap_or (option_map (λ d. d == w) o) false) (ap (done_at nodes) (sym same) ∙ at)
        ∙ (eq-eqb w w refl ∙ sym (eq-eqb x j same))
    | inr other ↦ elim (cases_option (done_at nodes j)) [
      | inl none ↦ ap (λ o. unwrap_or (option_map (λ d. d == w) o) false) none ∙ sym (ne_eqb x j other)
      | inr some ↦ ap (λ o. unwrap_or (option_map (λ d. d == w) o) false) some.1
          ∙ (ne_eqb some.0 w (λ e. other (same_node x j w at (some.1 ∙ ap (λ d. Some d) e))) ∙ sym (ne_eqb x j other))
    ]
  ]

  pub any_source : (j : ℕ) (xs ws : List ℕ) → Events nodes xs ws → list_any (λ e. has_event nodes e j) ws ≡ list_any (λ p. p == j) xs
  any_source j [] [] e = refl
  any_source j [] (w ∷ ws) e = let bad : 0 ≡ suc (length ws) = source_count nodes [] (w ∷ ws) e in absurd (omega (arith, bad))
  any_source j (x ∷ xs) [] e = let bad : suc (length xs) ≡ 0 = source_count nodes (x ∷ xs) [] e in absurd (omega (arith, bad))
  any_source j (x ∷ xs) (w ∷ ws) e =
      rw (has_source x w j (first_event nodes x w xs ws e), any_source j xs ws (other_events nodes x w xs ws e)) refl

  pub times_source : (p : ℕ) (n : Node) → slice_get nodes p ≡ Some n → (xs ws : List ℕ) → Events nodes xs ws → times p xs ≡ times n.done ws
  times_source p n at [] [] e = refl
  times_source p n at [] (w ∷ ws) e = let bad : 0 ≡ suc (length ws) = source_count nodes [] (w ∷ ws) e in absurd (omega (arith, bad))
  times_source p n at (x ∷ xs) [] e = let bad : suc (length xs) ≡ 0 = source_count nodes (x ∷ xs) [] e in absurd (omega (arith, bad))
  times_source p n at (x ∷ xs) (w ∷ ws) e =
      let event : done_at nodes p ≡ Some n.done = rw at refl in
      let has : has_event nodes w p ≡ (n.done == w) = ap (λ o. unwrap_or (option_map (λ d. d == w) o) false) event in
      let here : (n.done == w) ≡ (x == p) = sym has ∙ has_source x w p (first_event nodes x w xs ws e) in
      let turned : (w == n.done) ≡ (n.done == w) = grind (arith, nat_tests) in
      rw (turned, here, times_source p n at xs ws (other_events nodes x w xs ws e)) refl
