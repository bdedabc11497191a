-- Two nodes race, and then a race is shown; or none do.
use Rattle.std.proofs.Common.{◌≡◌, ◌≢◌, ℕ, ◌<◌, ◌≤◌, ◌⊎◌, inl, inr, Bool, true, false, List, [], ◌∷◌, length, map, flat_map, refl, sym, ap, ◌∙◌, subst, arith, Contains, nat_lt}
use Rattle.std.proofs.lemmas.Bool.{cases_eq}
use Rattle.std.proofs.lemmas.Bool.Decides.{nat_tests}
use Rattle.vocabulary.specs.Prelude.{Cell, Tables, comes_first, graph_of, Before, Step, steps, Access, Untouched, Writes, Folds, access, conflicts, Race, IsRaceFree}
use Rattle.semantics.specs.ReplayOrder.{replay_order}
use Rattle.semantics.specs.Races.{Reads}
use Rattle.semantics.specs.Shown.{replay_place, IsShownRace}
use Rattle.list_lemmas.proofs.lemmas.Contained.{member_flat, flat_member, member_map, map_member}
use Rattle.log_laws.proofs.lemmas.OwnConflicts.{ends, meet, untouched}
use Rattle.outcomes.proofs.Decided.{IsDecided, both_told, failing_told, test_told, less_told, IsLeast, least_or_none}
use Rattle.outcomes.proofs.Races.{one_node}

turned_conflict : (a b : Access) → conflicts b a ≡ conflicts a b
turned_conflict Untouched b = untouched b
turned_conflict a Untouched = sym (untouched a)
turned_conflict Reads Reads = refl
turned_conflict Reads Writes = refl
turned_conflict Reads (Folds q) = refl
turned_conflict Writes Reads = refl
turned_conflict Writes Writes = refl
turned_conflict Writes (Folds q) = refl
turned_conflict (Folds p) Reads = refl
turned_conflict (Folds p) Writes = refl
turned_conflict (Folds p) (Folds q) = grind (arith, nat_tests)

cell_told : (a b : Cell) → IsDecided (a ≡ b)
cell_told a b = elim (cases_eq a.inst b.inst) [
  | inr other ↦ inr (λ e. other (ap (λ (c : Cell). c.inst) e))
  | inl inst ↦ elim (cases_eq a.point b.point) [
    | inr other ↦ inr (λ e. other (ap (λ (c : Cell). c.point) e))
    | inl point ↦ elim (cases_eq a.field b.field) [
      | inr other ↦ inr (λ e. other (ap (λ (c : Cell). c.field) e))
      | inl field ↦ inl (λ i. record { inst = inst i; point = point i; field = field i })
    ]
  ]
]

not_less : (a b : ℕ) → nat_lt a b ≡ false → b ≤ a
not_less a b e = grind (arith, nat_tests, e)

never_less : (n : ℕ) → nat_lt n n ≡ false
never_less n = grind (arith, nat_tests)

less_along : (a b c : ℕ) → nat_lt a b ≡ true → nat_lt b c ≡ true → nat_lt a c ≡ true
less_along a b c p q = grind (arith, nat_tests, p, q)

never_first : (a b c : ℕ) → comes_first (a, b, c) (a, b, c) ≡ false
never_first a b c = grind (arith, nat_tests)

first_along : (a b c d e f g h i : ℕ) → comes_first (a, b, c) (d, e, f) ≡ true → comes_first (d, e, f) (g, h, i) ≡ true
    → comes_first (a, b, c) (g, h, i) ≡ true
first_along a b c d e f g h i p q = grind (arith, nat_tests, p, q)

-- Two steps and a cell: what may be a race.
record Trio : Type 0 where
  one : Step
  other : Step
  cell : Cell

abbrev cell_before : Cell → Cell → Bool
cell_before c d = comes_first (c.inst, c.point, c.field) (d.inst, d.point, d.field)

module _ (t : Tables) (replayed : (k : ℕ) → k < length t.nodes → Contains (replay_order (graph_of t.nodes)) k) (told : (a b : ℕ)
    → IsDecided (Before (graph_of t.nodes) a b)) where
  abbrev cells_of : Step → List Cell
  cells_of x = (ends x.move).0 ∷ (ends x.move).1 ∷ []

  abbrev trio : Step → Step → Cell → Trio
  trio x y c = record { one = x; other = y; cell = c }

  abbrev with_both : Step → Step → List Trio
  with_both x y = map (trio x y) (cells_of x)

  abbrev with_one : Step → List Trio
  with_one x = flat_map (with_both x) (steps t)

  abbrev trios : List Trio
  trios = flat_map with_one (steps t)

  abbrev place : ℕ → ℕ
  place = replay_place t

  -- They are a race, and the first stands first in replay order.
  abbrev IsRacing : Trio → Type 0
  IsRacing x = (x.one.node ≢ x.other.node) × ((conflicts (access x.one.move x.cell) (access x.other.move x.cell) ≡ true)
      × ((Before (graph_of t.nodes) x.one.node x.other.node → ⊥)
      × ((Before (graph_of t.nodes) x.other.node x.one.node → ⊥) × (place x.one.node < place x.other.node))))

  racing_told : (x : Trio) → IsDecided (IsRacing x)
  racing_told x = both_told _ _ (failing_told _ (cases_eq x.one.node x.other.node))
      (both_told _ _ (test_told _) (both_told _ _ (failing_told _ (told _ _)) (both_told _ _ (failing_told _ (told _ _)) (less_told _ _))))

  race_of : (x : Trio) → Contains trios x → IsRacing x → Race t x.one.node x.other.node x.cell
  race_of x m r =
      let first = member_flat with_one (steps t) x m in
      let second = member_flat (with_both first.0) (steps t) x first.2 in
      let made = member_map (trio first.0 second.0) (cells_of first.0) x second.2 in
      record {
        differ = r.0;
        one = x.one.move;
        other = x.other.move;
        one_in = subst (Contains (steps t)) (sym (ap (λ (y : Trio). y.one) made.2)) first.1;
        other_in = subst (Contains (steps t)) (sym (ap (λ (y : Trio). y.other) made.2)) second.1;
        conflict = r.1.0;
        not_before = r.1.1.0;
        not_after = r.1.1.1.0;
      }

  -- The steps of a race, with its cell.
  abbrev trio_of : (a b : ℕ) (cell : Cell) → Race t a b cell → Trio
  trio_of a b cell r = record { one = record { node = a; move = r.one }; other = record { node = b; move = r.other }; cell = cell }

  trio_listed : (a b : ℕ) (cell : Cell) (r : Race t a b cell) → Contains trios (trio_of a b cell r)
  trio_listed a b cell r =
      let x : Step = record { node = a; move = r.one } in
      let y : Step = record { node = b; move = r.other } in
      let touched = (meet (λ c. Contains ((ends r.one).0 ∷ (ends r.one).1 ∷ []) c)
      (λ c. Contains ((ends r.other).0 ∷ (ends r.other).1 ∷ []) c) r.one r.other cell r.conflict ((0, omega arith, refl), (1, omega arith, refl))
      ((0, omega arith, refl), (1, omega arith, refl))).0 in
      flat_member with_one (steps t) x (trio_of a b cell r) r.one_in
      (flat_member (with_both x) (steps t) y (trio_of a b cell r) r.other_in
      (map_member (trio x y) (cells_of x) cell touched))

  racing_of : (a b : ℕ) (cell : Cell) (r : Race t a b cell) → place a < place b → IsRacing (trio_of a b cell r)
  racing_of a b cell r lt = (r.differ, (r.conflict, (r.not_before, (r.not_after, lt))))

  turned : (a b : ℕ) (cell : Cell) → Race t a b cell → Race t b a cell
  turned a b cell r = record {
    differ = λ e. r.differ (sym e);
    one = r.other;
    other = r.one;
    one_in = r.other_in;
    other_in =
        r.one_in;
    conflict = turned_conflict (access r.one cell) (access r.other cell) ∙ r.conflict;
    not_before = r.not_after;
    not_after =
        r.not_before;
  }

  -- One of the two stands first in replay order.
  in_turn : (a b : ℕ) (cell : Cell) → Race t a b cell → (place a < place b) ⊎ (place b < place a)
  in_turn a b cell r = elim (less_told (place a) (place b)) [
    | inl lt ↦ inl lt
    | inr ge ↦ elim (less_told (place b) (place a)) [
      | inl gt ↦ inr gt
      | inr le ↦ absurd (r.differ (one_node t replayed a b r.one r.other r.one_in r.other_in (omega (arith, le)) (omega (arith, ge))))
    ]
  ]

  abbrev in_cell : Trio → Trio → Bool
  in_cell x y = cell_before x.cell y.cell

  abbrev by_later : Trio → Trio → Bool
  by_later x y = nat_lt (place x.other.node) (place y.other.node)

  abbrev by_earlier : Trio → Trio → Bool
  by_earlier x y = nat_lt (place x.one.node) (place y.one.node)

  cell_never : (x : Trio) → in_cell x x ≡ false
  cell_never x = never_first x.cell.inst x.cell.point x.cell.field

  cell_along : (x y z : Trio) → in_cell x y ≡ true → in_cell y z ≡ true → in_cell x z ≡ true
  cell_along x y z = first_along x.cell.inst x.cell.point x.cell.field y.cell.inst y.cell.point y.cell.field z.cell.inst z.cell.point z.cell.field

  -- Those at one cell, and those of them with one later node.
  abbrev AtCell : Cell → Trio → Type 0
  AtCell c x = IsRacing x × (x.cell ≡ c)

  abbrev WithLater : Cell → ℕ → Trio → Type 0
  WithLater c b x = AtCell c x × (x.other.node ≡ b)

  at_cell_told : (c : Cell) (x : Trio) → IsDecided (AtCell c x)
  at_cell_told c x = both_told _ _ (racing_told x) (cell_told x.cell c)

  with_later_told : (c : Cell) (b : ℕ) (x : Trio) → IsDecided (WithLater c b x)
  with_later_told c b x = both_told _ _ (at_cell_told c x) (cases_eq x.other.node b)

  abbrev LeastCell : Trio → Type 0
  LeastCell x = IsLeast in_cell cell_never cell_along IsRacing racing_told trios x

  abbrev FirstLater : Cell → Trio → Type 0
  FirstLater c x = IsLeast by_later (λ x. never_less _) (λ x y z. less_along _ _ _) (AtCell c) (at_cell_told c) trios x

  abbrev FirstEarlier : Cell → ℕ → Trio → Type 0
  FirstEarlier c b x = IsLeast by_earlier (λ x. never_less _) (λ x y z. less_along _ _ _) (WithLater c b) (with_later_told c b) trios x

  shown_of : (x y z : Trio) → LeastCell x → FirstLater x.cell y → FirstEarlier x.cell y.other.node z
      → IsShownRace t z.one.node z.other.node z.cell
  shown_of x y z p q r =
      let cell_is : z.cell ≡ x.cell = r.passes.0.1 in
      let later_is : z.other.node ≡ y.other.node = r.passes.1 in
      record {
        race = race_of z r.listed r.passes.0.0;
        in_order = r.passes.0.0.1.1.1.1;
        least_cell = λ c d cell race. subst (λ a. cell_before cell a ≡ false) (sym cell_is) (elim (in_turn c d cell race) [
          | inl lt ↦ p.least (trio_of c d cell race) (trio_listed c d cell race) (racing_of c d cell race lt)
          | inr gt ↦ (let other = turned c d cell race in
              p.least (trio_of d c cell other) (trio_listed d c cell other) (racing_of d c cell other gt))
        ]);
        first_later = λ c d race lt. subst (λ b. place b ≤ place d) (sym later_is)
            (not_less (place d) (place y.other.node)
            (q.least (trio_of c d z.cell race) (trio_listed c d z.cell race) (racing_of c d z.cell race lt, cell_is)));
        first_earlier = λ c race lt. not_less (place c) (place z.one.node)
            (r.least (trio_of c z.other.node z.cell race) (trio_listed c z.other.node z.cell race)
            ((racing_of c z.other.node z.cell race lt, cell_is), later_is));
      }

  -- A race is shown, or there is none.
  pub race_or_none : ((a : ℕ) × (b : ℕ) × (cell : Cell) × IsShownRace t a b cell) ⊎ IsRaceFree t
  race_or_none = elim (least_or_none in_cell cell_never cell_along IsRacing racing_told trios) [
    | inr none ↦ inr (λ a b cell race. elim (in_turn a b cell race) [
      | inl lt ↦ none (trio_of a b cell race) (trio_listed a b cell race) (racing_of a b cell race lt)
      | inr gt ↦ (let other = turned a b cell race in
          none (trio_of b a cell other) (trio_listed b a cell other) (racing_of b a cell other gt))
    ])
    | inl x ↦ elim (least_or_none by_later (λ x. never_less _) (λ x y z. less_along _ _ _) (AtCell x.0.cell)
        (at_cell_told x.0.cell) trios) [
          | inr none ↦ absurd (none x.0 x.1.listed (x.1.passes, refl))
          | inl y ↦ elim (least_or_none by_earlier (λ x. never_less _) (λ x y z. less_along _ _ _) (WithLater x.0.cell y.0.other.node)
              (with_later_told x.0.cell y.0.other.node) trios) [
                | inr none ↦ absurd (none y.0 y.1.listed (y.1.passes, refl))
                | inl z ↦ inl (z.0.one.node, z.0.other.node, z.0.cell, shown_of x.0 y.0 z.0 x.1 y.1 z.1)
              ]
        ]
  ]
