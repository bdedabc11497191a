-- The walk over the stuck nodes.
use Rattle.std.proofs.Common.{add-one, ◌≡◌, ℕ, ◌+◌, ◌<◌, ◌==◌, ◌&&◌, ◌||◌, Bool, true, false, List, [], ◌∷◌, length, get_or, arith, refl, sym, ap, ◌∙◌, inl, inr, Some, None, find, filter, unwrap_or, All}
use Rattle.std.specs.List.{list_any}
use Rattle.std.proofs.lemmas.Bool.{true≢false, cases_Bool, false_from_ne_true, and_left, and_right, and_from, not_from_false, not-true}
use Rattle.std.proofs.lemmas.Option.{same_Some}
use Rattle.vocabulary.specs.Prelude.{is_in, AreLinked, Node}
use Rattle.semantics.specs.ReplayOrder.{positions, waits_at, has_event, replay_order, is_stuck, stuck_wait, walk, up_to, cycle_from, from_least, shown_cycle}
use Rattle.log_laws.proofs.lemmas.Rounds.{replay, taken_within}
use Rattle.std.proofs.lemmas.List.Elements.{Contains-get_or}
use Rattle.std.proofs.Math.Bool.{or_comm}
use Rattle.event_graph.specs.EventPlaces.{AreSources}
use Rattle.event_graph.specs.Marked.{AreMarked}
use Rattle.event_graph.proofs.Sourced.{any_source}
use Rattle.event_graph.proofs.Taking.{find_least, find_nothing}
use Rattle.list_lemmas.proofs.lemmas.Places.{find_filter}

filter_none : {X : Type 0} (s : X → Bool) (xs : List X) → find s xs ≡ None → filter s xs ≡ []
filter_none s [] e = refl
filter_none s (x ∷ xs) e = elim (cases_Bool (s x)) [
  | inl yes_s ↦ let bad = rw yes_s at e in
      absurd cc
  | inr no_s ↦ rw no_s (filter_none s xs (rw no_s at e))
]

filter_some : {X : Type 0} (s : X → Bool) (xs : List X) (x : X) → find s xs ≡ Some x → (rest : List X) × (filter s xs ≡ x ∷ rest)
filter_some s [] x e = absurd cc
filter_some s (y ∷ xs) x e = elim (cases_Bool (s y)) [
  | inl yes_s ↦ let is = same_Some y x (rw yes_s at e) in (filter s xs, rw yes_s (ap (λ z. z ∷ filter s xs) is))
  | inr no_s ↦ let r = filter_some s xs x (rw no_s at e) in (r.0, rw no_s r.1)
]

module _ (nodes : List Node) (marks : List Bool) (marked : AreMarked marks (length nodes) (replay_order nodes)) where
  unmarked : (j : ℕ) → j < length nodes → get_or marks j false ≡ false → is_stuck nodes j ≡ true
  unmarked j lt e = not_from_false (is_in (replay_order nodes) j) (sym (marked.marked j lt) ∙ e)

  stuck_unmarked : (j : ℕ) → j < length nodes → is_stuck nodes j ≡ true → get_or marks j false ≡ false
  stuck_unmarked j lt e = marked.marked j lt ∙ not-true (is_in (replay_order nodes) j) e

  pub none_stuck : ((j : ℕ) → j < length marks → get_or marks j false ≡ true) → shown_cycle nodes ≡ None
  unfolding shown_cycle
  none_stuck all = ap (cycle_from nodes) (filter_none (is_stuck nodes) (positions nodes)
      (find_nothing nodes (is_stuck nodes) (λ j lt. false_from_ne_true (is_stuck nodes j)
      (λ stuck. true≢false (sym (all j (omega (arith, lt, marked.each))) ∙ stuck_unmarked j lt stuck)))))

  pub first_stuck : (k : ℕ) → k < length marks → get_or marks k false ≡ false → ((j : ℕ) → j < k → get_or marks j false ≡ true)
      → shown_cycle nodes ≡ Some (from_least (walk nodes (length nodes + 1) [] k))
  unfolding shown_cycle
  first_stuck k lt is below =
      let in_nodes : k < length nodes = omega (arith, lt, marked.each) in
      let first = find_least nodes (is_stuck nodes) k in_nodes (unmarked k in_nodes is)
      (λ j less. false_from_ne_true (is_stuck nodes j)
      (λ stuck. true≢false (sym (below j less) ∙ stuck_unmarked j (omega (arith, less, in_nodes)) stuck))) in
      ap (cycle_from nodes) (filter_some (is_stuck nodes) (positions nodes) k first).1

  module _ (linked : AreLinked nodes) (k : ℕ) (list : List ℕ) (are : AreSources nodes k list) where
    abbrev waits_there : ℕ → Bool
    waits_there j = list_any (λ p. p == j) list

    lists_is : (j : ℕ) → list_any (λ e. has_event nodes e j) (waits_at nodes k) ≡ waits_there j
    lists_is j = any_source nodes linked.apart j list (waits_at nodes k) are

    pub stuck_wait_some : (best : ℕ) → best < length nodes → get_or marks best false ≡ false → waits_there best ≡ true
        → ((j : ℕ) → j < best → get_or marks j false ≡ false → waits_there j ≡ false) → stuck_wait nodes k ≡ Some best
    stuck_wait_some best lt un there least =
        find_filter (is_stuck nodes) (λ j. list_any (λ e. has_event nodes e j) (waits_at nodes k)) (positions nodes)
        ∙ find_least nodes (λ j. is_stuck nodes j && list_any (λ e. has_event nodes e j) (waits_at nodes k)) best lt
        (and_from (is_stuck nodes best) _ (unmarked best lt un) (lists_is best ∙ there))
        (λ j less. elim (cases_Bool (is_stuck nodes j)) [
          | inl stuck ↦ and_right (is_stuck nodes j) _ (lists_is j ∙ least j less (stuck_unmarked j (omega (arith, less, lt)) stuck))
          | inr free ↦ and_left (is_stuck nodes j) _ free
        ])

    pub stuck_wait_none : ((j : ℕ) → j < length nodes → get_or marks j false ≡ false → waits_there j ≡ false) → stuck_wait nodes k ≡ None
    stuck_wait_none least =
        find_filter (is_stuck nodes) (λ j. list_any (λ e. has_event nodes e j) (waits_at nodes k)) (positions nodes)
        ∙ find_nothing nodes (λ j. is_stuck nodes j && list_any (λ e. has_event nodes e j) (waits_at nodes k))
        (λ j lt. elim (cases_Bool (is_stuck nodes j)) [
          | inl stuck ↦ and_right (is_stuck nodes j) _ (lists_is j ∙ least j lt (stuck_unmarked j lt stuck))
          | inr free ↦ and_left (is_stuck nodes j) _ free
        ])

-- One step of the walk.
pub walk_on : (nodes : List Node) (n m : ℕ) (walked : List ℕ) (k : ℕ) → n ≡ m + 1 → is_in walked k ≡ false
    → walk nodes n walked k ≡ walk nodes m (k ∷ walked) (unwrap_or (stuck_wait nodes k) k)
walk_on nodes n m walked k is new = rw (is, add-one m, new) refl

pub walk_back : (nodes : List Node) (n m : ℕ) (walked : List ℕ) (k : ℕ) → n ≡ m + 1 → is_in walked k ≡ true
    → walk nodes n walked k ≡ up_to k walked
walk_back nodes n m walked k is old = rw (is, add-one m, old) refl

-- One more number is marked.
pub marked_more : (marks more : List Bool) (count : ℕ) (ks : List ℕ) (k : ℕ) → AreMarked marks count ks → length more ≡ length marks
    → ((j : ℕ) → j < length marks → get_or more j false ≡ (get_or marks j false || (k == j))) → AreMarked more count (k ∷ ks)
marked_more marks more count ks k h each is = record {
  each = each ∙ h.each;
  marked = λ j lt. is j (omega (arith, lt, h.each)) ∙ (ap (λ b. b || (k == j)) (h.marked j lt) ∙ or_comm (is_in ks j) (k == j));
}

pub order_within : (nodes : List Node) → All (λ k. k < length nodes) (replay_order nodes)
order_within nodes i d lt = taken_within (replay nodes).taken (get_or (replay_order nodes) i d)
    (Contains-get_or (replay_order nodes) i d lt)
