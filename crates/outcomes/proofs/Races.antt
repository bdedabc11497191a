-- The race that is shown is one.
use Rattle.std.proofs.Common.{◌≡◌, ℕ, ◌<◌, ◌≤◌, ◌==◌, inl, inr, false, List, [], ◌∷◌, refl, sym, ap, ◌∙◌, subst, arith, Some, Contains, length}
use Rattle.std.proofs.lemmas.Bool.{cases_Bool, eq-eqb, eqb-true, lt-ltb}
use Rattle.std.proofs.lemmas.List.Quantifiers.{position-Some}
use Rattle.std.proofs.Common.{get_or}
use Rattle.std.specs.List.{position_or_len, range_with_len}
use Rattle.std.proofs.lemmas.Bool.Decides.{nat_tests}
use Rattle.std.proofs.lemmas.Option.{slice_get_within}
use Rattle.std.specs.Prelude.{position, unwrap_or}
use Rattle.list_lemmas.proofs.lemmas.Contained.{Contains-nil, Contains-cases}
use Rattle.vocabulary.specs.Prelude.{Cell, Move, Tables, comes_first, graph_of, steps}
use Rattle.semantics.specs.ReplayOrder.{replay_order}
use Rattle.semantics.specs.Shown.{replay_place, IsShownRace}
use Rattle.log_laws.proofs.lemmas.StepLists.{of_node}

one_place : (a b c d e f : ℕ) → comes_first (a, b, c) (d, e, f) ≡ false → comes_first (d, e, f) (a, b, c) ≡ false → (a ≡ d) × (b ≡ e)
    × (c ≡ f)
one_place a b c d e f p q = (grind (arith, nat_tests), grind (arith, nat_tests), grind (arith, nat_tests))

found_in : (b : ℕ) (xs : List ℕ) → Contains xs b → position_or_len (λ n. n == b) xs < length xs
found_in b [] m = absurd (Contains-nil m)
found_in b (x ∷ xs) m = elim (Contains-cases xs m) [
  | inl is ↦ rw (eq-eqb x b (sym is)) (omega arith)
  | inr later ↦
      elim (cases_Bool (x == b)) [ inl same ↦ rw same (omega arith) | inr other ↦ rw other (omega (arith, found_in b xs later)) ]
]

-- The first place of a number that a list has.
position_at : (xs : List ℕ) (n b : ℕ) → position_or_len (λ k. k == b) xs < length xs
    → (unwrap_or (position (λ k. k == b) xs) n ≡ position_or_len (λ k. k == b) xs) × (get_or xs (position_or_len (λ k. k == b) xs) 0 ≡ b)
position_at xs n b lt =
    let is : position (λ k. k == b) xs ≡ Some (position_or_len (λ k. k == b) xs) = rw (lt-ltb _ _ lt) refl in
    (rw is refl, eqb-true _ _ (position-Some (λ k. k == b) xs _ 0 is).1)

-- The numbers of a list whose first places are the same are the same.
same_by_place : (xs : List ℕ) (n b d : ℕ) → Contains xs b → Contains xs d
    → unwrap_or (position (λ k. k == b) xs) n ≡ unwrap_or (position (λ k. k == d) xs) n → b ≡ d
same_by_place xs n b d m l e =
    let first = position_at xs n b (found_in b xs m) in
    let second = position_at xs n d (found_in d xs l) in
    let same : position_or_len (λ k. k == b) xs ≡ position_or_len (λ k. k == d) xs = sym first.0 ∙ e ∙ second.0 in
    sym first.1 ∙ ap (λ k. get_or xs k 0) same ∙ second.1

-- Nodes whose places in the replay order are the same are the same, where no node is stuck.
module _ (t : Tables) (replayed : (k : ℕ) → k < length t.nodes → Contains (replay_order (graph_of t.nodes)) k) where
  node_of_place : (b d : ℕ) → b < length t.nodes → d < length t.nodes → replay_place t b ≡ replay_place t d → b ≡ d
  node_of_place b d lt less e =
      let order = replay_order (graph_of t.nodes) in
      same_by_place order (length t.nodes) b d (replayed b lt) (replayed d less) e

  within : (b : ℕ) (m : Move) → Contains (steps t) (record { node = b; move = m }) → b < length t.nodes
  within b m at = let node = of_node t (range_with_len 0 (length t.nodes)) _ at in
      slice_get_within t.nodes b node.node node.is_node

  pub one_node : (b d : ℕ) (m n : Move) → Contains (steps t) (record { node = b; move = m })
      → Contains (steps t) (record { node = d; move = n }) → replay_place t b ≤ replay_place t d → replay_place t d ≤ replay_place t b
      → b ≡ d
  one_node b d m n at there le ge = node_of_place b d (within b m at) (within d n there) (omega (arith, le, ge))

  pub one_race : (a b c d : ℕ) (cell other : Cell) → IsShownRace t a b cell → IsShownRace t c d other → (a ≡ c) × (b ≡ d) × (cell ≡ other)
  one_race a b c d cell other p q =
      let place = one_place cell.inst cell.point cell.field other.inst other.point other.field (q.least_cell a b cell p.race)
      (p.least_cell c d other q.race) in
      let here : cell ≡ other = rw (place.0, place.1, place.2) refl in
      let own = subst (λ x. IsShownRace t c d x) (sym here) q in
      let later : b ≡ d = one_node b d _ _ p.race.other_in own.race.other_in (p.first_later c d own.race own.in_order)
      (own.first_later a b p.race p.in_order) in
      let pair = subst (λ x. IsShownRace t c x cell) (sym later) own in (
        one_node a c _ _ p.race.one_in pair.race.one_in (p.first_earlier c pair.race pair.in_order)
            (pair.first_earlier a p.race p.in_order),
        later,
        here,
      )
