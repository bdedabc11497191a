-- What is done at one cell, among all accesses in order.
use Rattle.std.proofs.Common.{◌≡◌, ℕ, ◌&&◌, ◌<◌, ◌≤◌, ◌⊎◌, inl, inr, Bool, true, false, nat_lt, List, [], ◌∷◌, ◌++◌, Some, None, All, refl, sym, ap, ◌∙◌, subst, arith, map, length, slice_index, Contains, AllPairs}
use Rattle.std.proofs.lemmas.Bool.{or_parts, ltb-false}
use Rattle.std.proofs.lemmas.Bool.Decides.{nat_tests}
use Rattle.std.proofs.lemmas.List.{append-nil}
use Rattle.vocabulary.specs.Prelude.{Cell, comes_first, same_cell}
use Rattle.cell_races.specs.declared.access.NodeAccess.{NodeAccess}
use Rattle.cell_races.specs.declared.cell_accesses.CellAccess.{CellAccess}
use Rattle.cell_races.specs.Accesses.{conflicts}
use Rattle.cell_races.specs.CellAccesses.{key, comes_before, IsUpTo, AreByCell}
use Rattle.cell_races.specs.NodeAccesses.{node_access_of, node_accesses_of}
use Rattle.cell_races.specs.Races.{race_in}
use Rattle.cell_races.specs.Clashes.{Clash, IsFree, IsShown}
use Rattle.std.proofs.lemmas.List.Elements.{Contains-append_right, Contains-append_cases, Contains-append_left, All-contains}
use Rattle.list_lemmas.proofs.lemmas.Pairs.{AllPairs-parts, AllPairs-first, AllPairs-so}
use Rattle.list_lemmas.proofs.lemmas.Contained.{map_member, member_map, Contains-nil, Contains-cases, Contains-here}
use Rattle.cell_races.proofs.Merging.{Climbs}
use Rattle.cell_races.proofs.Sorting.{same_itself}
use Rattle.cell_races.proofs.ShownAt.{RaceOf, none_at, shown_at}
use Rattle.cell_races.proofs.Members.{pairs_map}

-- ---- cells in order

pub not_itself : (c : Cell) → comes_first (key c) (key c) ≡ false
not_itself c = grind (arith, nat_tests)

inst_is : (a b : Cell) → comes_first (key a) (key b) ≡ false → comes_first (key b) (key a) ≡ false → a.inst ≡ b.inst
inst_is a b e f = grind (arith, nat_tests)

point_is : (a b : Cell) → comes_first (key a) (key b) ≡ false → comes_first (key b) (key a) ≡ false → a.point ≡ b.point
point_is a b e f = grind (arith, nat_tests, inst_is a b)

field_is : (a b : Cell) → comes_first (key a) (key b) ≡ false → comes_first (key b) (key a) ≡ false → a.field ≡ b.field
field_is a b e f = grind (arith, nat_tests, inst_is a b, point_is a b)

neither_first : (a b : Cell) → comes_first (key a) (key b) ≡ false → comes_first (key b) (key a) ≡ false → a ≡ b
neither_first a b e f = rw (inst_is a b e f, point_is a b e f, field_is a b e f) refl

-- No later access of a cell is by an earlier node.
pub place_after : (x y : CellAccess) → x.cell ≡ y.cell → comes_before y x ≡ false → x.place ≤ y.place
place_after x y same e =
    let at : same_cell y.cell x.cell ≡ true = rw same (same_itself y.cell) in
    ltb-false y.place x.place (sym (ap (λ b. b && nat_lt y.place x.place) at)
    ∙ (or_parts _ (same_cell y.cell x.cell && nat_lt y.place x.place) e).1)

-- ---- the accesses of one cell, those before and those after them

abbrev pub NotAfter : CellAccess → CellAccess → Type 0
NotAfter x y = comes_before y x ≡ false

pub record IsCellOf (c : Cell) (front here back : List CellAccess) : Type 0 where
  pub at : (x : CellAccess) → Contains here x → x.cell ≡ c
  pub not_front : (x : CellAccess) → Contains front x → x.cell ≡ c → ⊥
  pub not_back : (x : CellAccess) → Contains back x → x.cell ≡ c → ⊥
  pub far : (x y : CellAccess) → Contains front x → Contains back y → x.cell ≡ y.cell → ⊥
  pub least : (x : CellAccess) → Contains here x ⊎ Contains back x → comes_first (key x.cell) (key c) ≡ false

-- What follows is at other cells than what came before.
abbrev pub IsApart : List CellAccess → List CellAccess → Type 0
IsApart front back = (x y : CellAccess) → Contains front x → Contains back y → x.cell ≡ y.cell → ⊥

-- The list does not begin at a cell.
abbrev pub BeginsElsewhere : Cell → List CellAccess → Type 0
BeginsElsewhere c [] = Unit {0}
BeginsElsewhere c (x ∷ xs) = x.cell ≡ c → ⊥

-- Where what follows an access does not begin at its cell, nothing of it is there.
pub gone : (r : CellAccess) (back : List CellAccess) → ((y : CellAccess) → Contains back y → IsUpTo r y) → AreByCell back
    → BeginsElsewhere r.cell back → (y : CellAccess) → Contains back y → y.cell ≡ r.cell → ⊥
gone r [] up o begins y m at = absurd (Contains-nil m)
gone r (e ∷ back) up o begins y m at = elim (Contains-cases back m) [
  | inl here ↦ begins (ap (λ (x : CellAccess). x.cell) (sym here) ∙ at)
  | inr later ↦ begins (neither_first e.cell r.cell (up e (Contains-here back))
      (subst (λ c. comes_first (key c) (key e.cell) ≡ false) at (AllPairs-first IsUpTo e back o y later)))
]

up_to : (x y : CellAccess) → NotAfter x y → IsUpTo x y
up_to x y after = (or_parts _ (same_cell y.cell x.cell && nat_lt y.place x.place) after).0

by_cell : (xs : List CellAccess) → AllPairs NotAfter xs → AreByCell xs
by_cell xs o = AllPairs-so NotAfter IsUpTo xs (λ x y _ _. up_to x y) o

pub cell_of : (front : List CellAccess) (r : CellAccess) (here back : List CellAccess) → AllPairs NotAfter (front ++ ((r ∷ here) ++ back))
    → IsApart front ((r ∷ here) ++ back)
    → ((x : CellAccess) → Contains (r ∷ here) x → x.cell ≡ r.cell) → BeginsElsewhere r.cell back → IsCellOf r.cell front (r ∷ here) back
cell_of front r here back o apart at begins =
    let rest = (AllPairs-parts NotAfter front ((r ∷ here) ++ back) o).1 in
    let parts = AllPairs-parts NotAfter (r ∷ here) back rest in
    let after : (y : CellAccess) → Contains back y → NotAfter r y = λ y m. parts.2 r y (Contains-here here) m in
    record {
      at = at;
      not_front = λ x m e. apart x r m (Contains-here (here ++ back)) e;
      not_back = gone r back (λ y m. up_to r y (after y m)) (by_cell back parts.1) begins;
      far = λ x y m n e. apart x y m (Contains-append_right (r ∷ here) back y n) e;
      least = λ x m. elim m [
        | inl in_here ↦ rw (at x in_here) (not_itself r.cell)
        | inr in_back ↦ (or_parts _ (same_cell x.cell r.cell && nat_lt x.place r.place) (after x in_back)).0
      ];
    }

module _ (before : ℕ → ℕ → Bool) (order : List ℕ) where
  side : (front here back : List CellAccess) (x : CellAccess) → Contains (front ++ (here ++ back)) x → Contains front x ⊎ (Contains here x ⊎ Contains back x)
  side front here back x m = elim (Contains-append_cases front (here ++ back) x m) [ inl f ↦ inl f | inr r ↦ inr (Contains-append_cases here back x r) ]

  clash_among : (some all : List CellAccess) (a b : ℕ) (cell : Cell) (k : Clash before order all a b cell) → Contains some k.one
      → Contains some k.other → Clash before order some a b cell
  clash_among some all a b cell k m n = record {
    differ = k.differ;
    one = k.one;
    other = k.other;
    one_in = m;
    other_in = n;
    one_at = k.one_at;
    other_at = k.other_at;
    one_by = k.one_by;
    other_by = k.other_by;
    conflict = k.conflict;
    not_before = k.not_before;
    not_after = k.not_after;
  }

  -- A clash stands in one of the three parts.
  clash_in : (c : Cell) (front here back : List CellAccess) → IsCellOf c front here back → IsFree before order front
      → (a b : ℕ) (cell : Cell) → (k : Clash before order (front ++ (here ++ back)) a b cell) → (Contains here k.one × Contains here k.other)
      ⊎ (Contains back k.one × Contains back k.other)
  clash_in c front here back h free a b cell k =
      let same = k.one_at ∙ sym k.other_at in
      elim (side front here back k.one k.one_in) [
        | inl one_front ↦ elim (side front here back k.other k.other_in) [
          | inl other_front ↦ absurd (free a b cell (clash_among front (front ++ (here ++ back)) a b cell k one_front other_front))
          | inr (inl other_here) ↦ absurd (h.not_front k.one one_front (same ∙ h.at k.other other_here))
          | inr (inr other_back) ↦ absurd (h.far k.one k.other one_front other_back same)
        ]
        | inr (inl one_here) ↦ elim (side front here back k.other k.other_in) [
          | inl other_front ↦ absurd (h.not_front k.other other_front (sym same ∙ h.at k.one one_here))
          | inr (inl other_here) ↦ inl (one_here, other_here)
          | inr (inr other_back) ↦ absurd (h.not_back k.other other_back (sym same ∙ h.at k.one one_here))
        ]
        | inr (inr one_back) ↦ elim (side front here back k.other k.other_in) [
          | inl other_front ↦ absurd (h.far k.other k.one other_front one_back (sym same))
          | inr (inl other_here) ↦ absurd (h.not_back k.one one_back (same ∙ h.at k.other other_here))
          | inr (inr other_back) ↦ inr (one_back, other_back)
        ]
      ]

  race_of : (here all : List CellAccess) (a b : ℕ) (cell : Cell) (k : Clash before order all a b cell) → Contains here k.one → Contains here k.other
      → RaceOf before (map (node_access_of order) here) a b
  race_of here all a b cell k m n = record {
    one = node_access_of order k.one;
    other = node_access_of order k.other;
    one_in = map_member (node_access_of order) here k.one m;
    other_in = map_member (node_access_of order) here k.other n;
    one_by = k.one_by;
    other_by = k.other_by;
    races = (
      (λ e. k.differ (sym k.one_by ∙ (e ∙ k.other_by))),
      k.conflict,
      rw (k.one_by, k.other_by) k.not_before,
      rw (k.one_by, k.other_by) k.not_after,
    );
  }

  clash_of : (c : Cell) (here all : List CellAccess) → ((x : CellAccess) → Contains here x → x.cell ≡ c) → ((x : CellAccess) → Contains here x → Contains all x)
      → (a b : ℕ) → RaceOf before (map (node_access_of order) here) a b → Clash before order all a b c
  clash_of c here all at within a b r =
      let one = member_map (node_access_of order) here r.one r.one_in in
      let other = member_map (node_access_of order) here r.other r.other_in in
      let one_by : slice_index order one.0.place ≡ a = ap (λ (v : NodeAccess). v.node) (sym one.2) ∙ r.one_by in
      let other_by : slice_index order other.0.place ≡ b = ap (λ (v : NodeAccess). v.node) (sym other.2) ∙ r.other_by in
      record {
        differ = λ e. r.races.0 (r.one_by ∙ (e ∙ sym r.other_by));
        one = one.0;
        other = other.0;
        one_in = (within one.0 one.1);
        other_in = (within other.0 other.1);
        one_at = at one.0 one.1;
        other_at = at other.0 other.1;
        one_by = one_by;
        other_by = other_by;
        conflict = subst (λ (v : NodeAccess). conflicts one.0.access v.access ≡ true) other.2
            (subst (λ (v : NodeAccess). conflicts v.access r.other.access ≡ true) one.2 r.races.1);
        not_before = subst (λ n. before a n ≡ false) r.other_by (subst (λ m. before m r.other.node ≡ false) r.one_by r.races.2);
        not_after = subst (λ n. before b n ≡ false) r.one_by (subst (λ m. before m r.one.node ≡ false) r.other_by r.races.3);
      }

  pub free_more : (c : Cell) (front here : List CellAccess) → IsCellOf c front here [] → IsFree before order front
      → race_in before (node_accesses_of order here) ≡ None → IsFree before order (front ++ here)
  free_more c front here h free e a b cell k =
      let all = subst (λ zs. Clash before order (front ++ zs) a b cell) (sym (append-nil here)) k in
      elim (clash_in c front here [] h free a b cell all) [
        | inl both ↦ none_at before (map (node_access_of order) here) e a b (race_of here _ a b cell all both.0 both.1)
        | inr none ↦ absurd (Contains-nil none.0)
      ]

  module _ (rank : ℕ → ℕ) (later : (a b : ℕ) → before a b ≡ true → rank a < rank b) (placed : (p : ℕ) → p < length order
      → rank (slice_index order p) ≡ p) where
    climbs : (c : Cell) (here : List CellAccess) → ((x : CellAccess) → Contains here x → x.cell ≡ c) → All (λ (x : CellAccess). x.place < length order) here
        → AllPairs NotAfter here → AllPairs (Climbs rank) (map (node_access_of order) here)
    climbs c here at within o = pairs_map (node_access_of order) NotAfter (Climbs rank) here (λ x y m n not_after.
        let first = placed x.place (All-contains (λ (z : CellAccess). z.place < length order) here x within m) in
        let second = placed y.place (All-contains (λ (z : CellAccess). z.place < length order) here y within n) in
        (rw (first, second) (place_after x y (at x m ∙ sym (at y n)) not_after), λ e. ap (slice_index order) (sym first ∙ (e ∙ second)))) o

    pub shown_of : (c : Cell) (front here back : List CellAccess) → IsCellOf c front here back → IsFree before order front
        → All (λ (x : CellAccess). x.place < length order) here → AllPairs NotAfter here
        → (a b : ℕ) → race_in before (node_accesses_of order here) ≡ Some (a, b)
        → IsShown before rank order (front ++ (here ++ back)) (record { a = a; b = b; cell = c })
    shown_of c front here back h free within o a b e =
        let s = shown_at before rank later (map (node_access_of order) here) (climbs c here h.at within o) a b e in
        let inside : (x : CellAccess) → Contains here x → Contains (front ++ (here ++ back)) x =
        λ x m. Contains-append_right front (here ++ back) x (Contains-append_left here back x m) in
        record {
          clash = clash_of c here (front ++ (here ++ back)) h.at inside a b s.race;
          in_order = s.in_order;
          least_cell = λ m n other k. subst (λ d. comes_first (key d) (key c) ≡ false) k.one_at
              (elim (clash_in c front here back h free m n other k) [
                | inl both ↦ h.least k.one (inl both.0)
                | inr both ↦ h.least k.one (inr both.0)
              ]);
          first_later = λ m n k less. elim (clash_in c front here back h free m n c k) [
            | inl both ↦ s.first_later m n (race_of here _ m n c k both.0 both.1) less
            | inr both ↦ absurd (h.not_back k.one both.0 k.one_at)
          ];
          first_earlier = λ m k less. elim (clash_in c front here back h free m b c k) [
            | inl both ↦ s.first_earlier m (race_of here _ m b c k both.0 both.1) less
            | inr both ↦ absurd (h.not_back k.one both.0 k.one_at)
          ];
        }
