-- The rectangles of some columns, from those of both halves.
use Rattle.std.proofs.Common.{◌≡◌, ℕ, zero, suc, ◌+◌, ◌<◌, ◌≤◌, ◌^◌, nat_le, nat_lt, max, min, not, true, Bool, List, [], ◌∷◌, Option, Some, None, MatchOption, filter, length, get_or, All, AllPairs, inl, inr, refl, sym, subst, arith}
use Rattle.std.proofs.lemmas.Bool.{cases_Bool, cases_lt, and_parts, and_from, leb-true, le-leb, ltb-true, lt-ltb, not_from_false}
use Rattle.std.proofs.lemmas.List.Elements.{All-head, All-tail}
use Rattle.point_set.specs.declared.rect.Rect.{Rect}
use Rattle.point_set.specs.Rects.{AreSmall, rect_at}
use Rattle.overlaps.specs.declared.node.Columns.{Columns}
use Rattle.overlaps.specs.declared.point.Point.{Point}
use Rattle.overlaps.specs.Meeting.{Pairwise, AreApart, AreApartAt, AreApartIn, IsNoHigher, IsIn, IsShared, HasAllIn, spans, goes_left, goes_right, Tells, no_ends, clash_from}
use Rattle.overlaps.proofs.Clashing.{IsBelow, none_clash, some_clash, none_yet}
use Rattle.std.specs.List.{AllByRecursion}

-- ---- Filters.

pub each_kept : (P Q : Rect → Type 0) (p : Rect → Bool) (rs : List Rect) → ((r : Rect) → P r → p r ≡ true → Q r) → AllByRecursion P rs
    → AllByRecursion Q (filter p rs)
each_kept P Q p [] f h = tt
each_kept P Q p (r ∷ rs) f h = elim (cases_Bool (p r)) [
  | inl so ↦ rw so (f r h.0 so, each_kept P Q p rs f h.1)
  | inr nay ↦ rw nay (each_kept P Q p rs f h.1)
]

pub pairwise_kept : (R : Rect → Rect → Type 0) (p : Rect → Bool) (rs : List Rect) → Pairwise R rs → Pairwise R (filter p rs)
pairwise_kept R p [] h = tt
pairwise_kept R p (r ∷ rs) h = elim (cases_Bool (p r)) [
  | inl so ↦ rw so (each_kept (R r) (R r) p rs (λ s q _. q) h.0, pairwise_kept R p rs h.1)
  | inr nay ↦ rw nay (pairwise_kept R p rs h.1)
]

-- ---- Halves.

pub in_left : (lo hi middle : ℕ) (r : Rect) → IsIn lo hi r → goes_left lo hi middle r ≡ true → IsIn lo middle r
in_left lo hi middle r h so = record {
  begins = leb-true _ _ (and_parts (not (spans lo hi r)) (nat_le r.x0 middle) so).1;
  ends =
      h.ends;
  wide = h.wide;
  tall = h.tall;
}

pub in_right : (lo hi middle : ℕ) (r : Rect) → IsIn lo hi r → goes_right lo hi middle r ≡ true → IsIn (middle + 1) hi r
in_right lo hi middle r h so = let lt = ltb-true _ _ (and_parts (not (spans lo hi r)) (nat_lt middle r.x1) so).1 in
    record { begins = h.begins; ends = omega arith; wide = h.wide; tall = h.tall }

-- two rectangles, of which each half tells where both are in it
join_two : (lo hi middle : ℕ) (r s : Rect) → IsBelow lo hi r s
    → (goes_left lo hi middle r ≡ true → goes_left lo hi middle s ≡ true → AreApartIn lo middle r s)
    → (goes_right lo hi middle r ≡ true → goes_right lo hi middle s ≡ true → AreApartIn (middle + 1) hi r s) → AreApartIn lo hi r s
join_two lo hi middle r s below left right x y from to h k = elim (cases_Bool (spans lo hi r)) [
  | inl so ↦ let top = h.high in let low = k.low in omega (arith, below (inl so))
  | inr nay ↦ elim (cases_Bool (spans lo hi s)) [
    | inl so ↦ let top = h.high in let low = k.low in omega (arith, below (inr so))
    | inr none ↦ elim (cases_lt middle x) [
      | inl behind ↦
          let a = h.right in
          let b = k.right in
          right (and_from _ _ (not_from_false (spans lo hi r) nay) (lt-ltb middle r.x1 (omega arith)))
          (and_from _ _ (not_from_false (spans lo hi s) none) (lt-ltb middle s.x1 (omega arith))) x y (omega arith) to h k
      | inr before ↦
          let a = h.left in
          let b = k.left in
          left (and_from _ _ (not_from_false (spans lo hi r) nay) (le-leb r.x0 middle (omega arith)))
          (and_from _ _ (not_from_false (spans lo hi s) none) (le-leb s.x0 middle (omega arith))) x y from before h k
    ]
  ]
]

-- what a half tells of one rectangle and the later ones, where it is in the half
join_each : (lo hi middle : ℕ) (r : Rect) (ss : List Rect) → AllByRecursion (IsBelow lo hi r) ss
    → (goes_left lo hi middle r ≡ true → AllByRecursion (AreApartIn lo middle r) (filter (goes_left lo hi middle) ss))
    → (goes_right lo hi middle r ≡ true → AllByRecursion (AreApartIn (middle + 1) hi r) (filter (goes_right lo hi middle) ss))
    → AllByRecursion (AreApartIn lo hi r) ss
join_each lo hi middle r [] below left right = tt
join_each lo hi middle r (s ∷ ss) below left right = (
  join_two lo hi middle r s below.0
      (λ a b. let h : AllByRecursion (AreApartIn lo middle r) (s ∷ filter (goes_left lo hi middle) ss) = rw b at (left a) in h.0)
      (λ a b. let h : AllByRecursion (AreApartIn (middle + 1) hi r) (s ∷ filter (goes_right lo hi middle) ss) = rw b at (right a) in h.0),
  join_each lo hi middle r ss below.1
      (λ a. elim (cases_Bool (goes_left lo hi middle s)) [
        | inl so ↦ let h : AllByRecursion (AreApartIn lo middle r) (s ∷ filter (goes_left lo hi middle) ss) = rw so at (left a) in h.1
        | inr nay ↦ rw nay at (left a)
      ])
      (λ a. elim (cases_Bool (goes_right lo hi middle s)) [
        | inl so ↦ let h : AllByRecursion (AreApartIn (middle + 1) hi r) (s ∷ filter (goes_right lo hi middle) ss) = rw so at (right a) in h.1
        | inr nay ↦ rw nay at (right a)
      ]),
)

pub join_halves : (lo hi middle : ℕ) (rs : List Rect) → Pairwise (IsBelow lo hi) rs
    → Pairwise (AreApartIn lo middle) (filter (goes_left lo hi middle) rs)
    → Pairwise (AreApartIn (middle + 1) hi) (filter (goes_right lo hi middle) rs) → Pairwise (AreApartIn lo hi) rs
join_halves lo hi middle [] below left right = tt
join_halves lo hi middle (r ∷ rs) below left right = (
  join_each lo hi middle r rs below.0
      (λ so. let h : Pairwise (AreApartIn lo middle) (r ∷ filter (goes_left lo hi middle) rs) = rw so at left in h.0)
      (λ so. let h : Pairwise (AreApartIn (middle + 1) hi) (r ∷ filter (goes_right lo hi middle) rs) = rw so at right in h.0),
  join_halves lo hi middle rs below.1
      (elim (cases_Bool (goes_left lo hi middle r)) [
        | inl so ↦ let h : Pairwise (AreApartIn lo middle) (r ∷ filter (goes_left lo hi middle) rs) = rw so at left in h.1
        | inr nay ↦ rw nay at left
      ])
      (elim (cases_Bool (goes_right lo hi middle r)) [
        | inl so ↦ let h : Pairwise (AreApartIn (middle + 1) hi) (r ∷ filter (goes_right lo hi middle) rs) = rw so at right in h.1
        | inr nay ↦ rw nay at right
      ]),
)

-- ---- One column, or one rectangle.

one_column : (lo hi : ℕ) (r s : Rect) → hi ≤ lo → IsIn lo hi r → IsBelow lo hi r s → AreApartIn lo hi r s
one_column lo hi r s le inside below x y from to h k =
    let a = inside.begins in
    let b = inside.ends in
    let top = h.high in
    let low = k.low in
    omega (arith, below (inl (and_from _ _ (le-leb r.x0 lo (omega arith)) (le-leb hi r.x1 (omega arith)))))

one_each : (lo hi : ℕ) (r : Rect) (ss : List Rect) → hi ≤ lo → IsIn lo hi r → AllByRecursion (IsBelow lo hi r) ss → AllByRecursion (AreApartIn lo hi r) ss
one_each lo hi r [] le inside below = tt
one_each lo hi r (s ∷ ss) le inside below = (one_column lo hi r s le inside below.0, one_each lo hi r ss le inside below.1)

pub one_all : (lo hi : ℕ) (rs : List Rect) → hi ≤ lo → AllByRecursion (IsIn lo hi) rs → Pairwise (IsBelow lo hi) rs → Pairwise (AreApartIn lo hi) rs
one_all lo hi [] le inside below = tt
one_all lo hi (r ∷ rs) le inside below = (one_each lo hi r rs le inside.0 below.0, one_all lo hi rs le inside.1 below.1)

pub few : (lo hi : ℕ) (rs : List Rect) → length rs < 2 → Pairwise (AreApartIn lo hi) rs
few lo hi [] lt = tt
few lo hi (r ∷ []) lt = (tt, tt)
few lo hi (r ∷ s ∷ rs) lt = absurd (omega (arith, lt))

-- ---- By places.

each_from : (P : Rect → Type 0) (d : Rect) (rs : List Rect) → ((k : ℕ) → k < length rs → P (get_or rs k d)) → AllByRecursion P rs
each_from P d [] f = tt
each_from P d (r ∷ rs) f = (f 0 (omega arith), each_from P d rs (λ k lt. f (suc k) (omega arith)))

each_at : (P : Rect → Type 0) (rs : List Rect) (k : ℕ) (d : Rect) → AllByRecursion P rs → k < length rs → P (get_or rs k d)
each_at P [] k d h lt = absurd (omega arith)
each_at P (r ∷ rs) zero d h lt = h.0
each_at P (r ∷ rs) (suc k) d h lt = each_at P rs k d h.1 (omega arith)

pub pairwise_from : (R : Rect → Rect → Type 0) (rs : List Rect) → AllPairs R rs → Pairwise R rs
pairwise_from R [] h = tt
pairwise_from R (r ∷ rs) h = (
  each_from (R r) r rs (λ k lt. h 0 (suc k) r (omega arith) (omega arith)),
  pairwise_from R rs (λ i j d lt within. h (suc i) (suc j) d (omega (arith, lt)) (omega (arith, within))),
)

pub pairwise_at : (R : Rect → Rect → Type 0) (rs : List Rect) → Pairwise R rs → AllPairs R rs
pairwise_at R [] h i j d lt within = absurd (omega (arith, within))
pairwise_at R (r ∷ rs) h i zero d lt within = absurd (omega (arith, lt))
pairwise_at R (r ∷ rs) h zero (suc j) d lt within = each_at (R r) rs j d h.0 (omega (arith, within))
pairwise_at R (r ∷ rs) h (suc i) (suc j) d lt within = pairwise_at R rs h.1 i j d (omega (arith, lt)) (omega (arith, within))

each_weaker : (P Q : Rect → Type 0) (rs : List Rect) → ((r : Rect) → P r → Q r) → AllByRecursion P rs → AllByRecursion Q rs
each_weaker P Q [] f h = tt
each_weaker P Q (r ∷ rs) f h = (f r h.0, each_weaker P Q rs f h.1)

-- ---- What the halves tell.

pub is_none : (found : Option Point) → ((p : Point) → found ≡ Some p → ⊥) → found ≡ None
is_none None none = refl
is_none (Some p) none = absurd (none p refl)

pub clash_tells : (lo hi : ℕ) (p : Point) (rects : List Rect) → lo ≤ hi → AllByRecursion (IsIn lo hi) rects → Pairwise IsNoHigher rects
    → clash_from lo hi no_ends rects ≡ Some p → Pairwise (AreApartAt p) rects → ⊥
clash_tells lo hi p rects le inside order clash = some_clash lo hi no_ends p rects le (none_yet lo hi p rects) inside order clash

pub below_all : (lo hi : ℕ) (rects : List Rect) → clash_from lo hi no_ends rects ≡ None → Pairwise (IsBelow lo hi) rects
below_all lo hi rects none = (none_clash lo hi no_ends rects (omega arith) none).1

pub left_tells : (lo hi middle : ℕ) (p : Point) (rects left : List Rect) → left ≡ filter (goes_left lo hi middle) rects
    → (Pairwise (AreApartAt p) left → ⊥) → Pairwise (AreApartAt p) rects → ⊥
left_tells lo hi middle p rects left is meet apart =
    meet (subst (Pairwise (AreApartAt p)) (sym is) (pairwise_kept (AreApartAt p) (goes_left lo hi middle) rects apart))

pub both_tell : (lo hi middle : ℕ) (rects left right : List Rect) (found : Option Point) → clash_from lo hi no_ends rects ≡ None
    → left ≡ filter (goes_left lo hi middle) rects → right ≡ filter (goes_right lo hi middle) rects
    → Pairwise (AreApartIn lo middle) left → Tells (middle + 1) hi right found → Tells lo hi rects found
both_tell lo hi middle rects left right (Some p) none l r apart tells =
    λ all. tells (subst (Pairwise (AreApartAt p)) (sym r) (pairwise_kept (AreApartAt p) (goes_right lo hi middle) rects all))
both_tell lo hi middle rects left right None none l r apart tells =
    join_halves lo hi middle rects (below_all lo hi rects none) (subst (Pairwise (AreApartIn lo middle)) l apart)
    (subst (Pairwise (AreApartIn (middle + 1) hi)) r tells)

pub left_order : (lo hi middle : ℕ) (rects left : List Rect) → left ≡ filter (goes_left lo hi middle) rects
    → Pairwise IsNoHigher rects → Pairwise IsNoHigher left
left_order lo hi middle rects left is order = subst (Pairwise IsNoHigher) (sym is)
    (pairwise_kept IsNoHigher (goes_left lo hi middle) rects order)

pub right_order : (lo hi middle : ℕ) (rects right : List Rect) → right ≡ filter (goes_right lo hi middle) rects
    → Pairwise IsNoHigher rects → Pairwise IsNoHigher right
right_order lo hi middle rects right is order =
    subst (Pairwise IsNoHigher) (sym is) (pairwise_kept IsNoHigher (goes_right lo hi middle) rects order)

pub left_inside : (lo hi middle : ℕ) (rects left : List Rect) → left ≡ filter (goes_left lo hi middle) rects
    → AllByRecursion (IsIn lo hi) rects → AllByRecursion (IsIn lo middle) left
left_inside lo hi middle rects left is inside =
    subst (AllByRecursion (IsIn lo middle)) (sym is) (each_kept (IsIn lo hi) (IsIn lo middle) (goes_left lo hi middle) rects
    (in_left lo hi middle) inside)

pub right_inside : (lo hi middle : ℕ) (rects right : List Rect) → right ≡ filter (goes_right lo hi middle) rects
    → AllByRecursion (IsIn lo hi) rects → AllByRecursion (IsIn (middle + 1) hi) right
right_inside lo hi middle rects right is inside =
    subst (AllByRecursion (IsIn (middle + 1) hi)) (sym is)
    (each_kept (IsIn lo hi) (IsIn (middle + 1) hi) (goes_right lo hi middle) rects (in_right lo hi middle) inside)

-- ---- All columns.

pub all_in : (rs : List Rect) → All (λ (r : Rect). (r.x0 ≤ r.x1) × (r.y0 ≤ r.y1)) rs → AreSmall rs → AllByRecursion (IsIn 0 4294967295) rs
all_in [] some small = tt
all_in (r ∷ rs) some small =
    let h = All-head (λ (r : Rect). (r.x0 ≤ r.x1) × (r.y0 ≤ r.y1)) r rs some in
    let k = All-head (λ (r : Rect). (r.x1 < 2 ^ 32) × (r.y1 < 2 ^ 32)) r rs small in (
      record { begins = omega (arith, h.0, k.0); ends = omega arith; wide = h.0; tall = h.1 },
      all_in rs (All-tail (λ (r : Rect). (r.x0 ≤ r.x1) × (r.y0 ≤ r.y1)) r rs some)
          (All-tail (λ (r : Rect). (r.x1 < 2 ^ 32) × (r.y1 < 2 ^ 32)) r rs small),
    )

each_apart : (r : Rect) (ss : List Rect) → r.x1 < 2 ^ 32 → AllByRecursion (AreApartIn 0 4294967295 r) ss → AllByRecursion (AreApart r) ss
each_apart r ss fits h = each_weaker (AreApartIn 0 4294967295 r) (AreApart r) ss (λ s apart x y here there. let right = here.right in
    apart x y (omega arith) (omega arith) here there) h

pub all_apart : (rs : List Rect) → AreSmall rs → Pairwise (AreApartIn 0 4294967295) rs → Pairwise AreApart rs
all_apart [] small h = tt
all_apart (r ∷ rs) small h = (
  each_apart r rs (All-head (λ (r : Rect). (r.x1 < 2 ^ 32) × (r.y1 < 2 ^ 32)) r rs small).0 h.0,
  all_apart rs (All-tail (λ (r : Rect). (r.x1 < 2 ^ 32) × (r.y1 < 2 ^ 32)) r rs small) h.1,
)

-- what is told of all rectangles, from what is told of all columns
pub answer : (rs : List Rect) (found : Option Point) → AreSmall rs → Tells 0 4294967295 rs found
    → MatchOption found (AllPairs AreApart rs) (IsShared rs)
answer rs (Some p) small tells = λ all. tells (pairwise_from (AreApartAt p) rs all)
answer rs None small tells = pairwise_at AreApart rs (all_apart rs small tells)

-- ---- Narrower columns.

-- each rectangle before this place lies between these columns
abbrev pub AreBetween : List Rect → ℕ → ℕ → ℕ → Type 0
AreBetween rects n least greatest = (k : ℕ) → k < n → k < length rects → (least ≤ (rect_at rects k).x0) × ((rect_at rects k).x1 ≤ greatest)

pub narrow_inside : (lo hi least greatest first last : ℕ) (rects : List Rect) → AreBetween rects (length rects) least greatest
    → AllByRecursion (IsIn lo hi) rects → first ≡ max least lo → last ≡ max (min greatest hi) first → AllByRecursion (IsIn first last) rects
narrow_inside lo hi least greatest first last rects h inside f l =
    each_from (IsIn first last) (record { x0 = 0; x1 = 0; y0 = 0; y1 = 0 }) rects (λ k lt.
    let g = h k lt lt in
    let i = each_at (IsIn lo hi) rects k (record { x0 = 0; x1 = 0; y0 = 0; y1 = 0 }) inside lt in
    record {
      begins = omega (arith, g.0, g.1, i.begins, i.wide, f, l);
      ends = omega (arith, g.0, g.1, i.ends, i.wide, f, l);
      wide =
          i.wide;
      tall = i.tall;
    })

pub narrow_all : (lo hi least greatest : ℕ) (c : Columns) (rects : List Rect) → AreBetween rects (length rects) least greatest
    → c.lo ≡ max least lo → c.hi ≡ max (min greatest hi) c.lo → AllByRecursion (HasAllIn lo hi c) rects
narrow_all lo hi least greatest c rects h f l =
    each_from (HasAllIn lo hi c) (record { x0 = 0; x1 = 0; y0 = 0; y1 = 0 }) rects (λ k lt x from to left right.
    let g = h k lt lt in (omega (arith, g.0, f, from, left), omega (arith, g.1, l, to, right)))

widen_each : (lo hi : ℕ) (c : Columns) (r : Rect) (ss : List Rect) → HasAllIn lo hi c r → AllByRecursion (AreApartIn c.lo c.hi r) ss
    → AllByRecursion (AreApartIn lo hi r) ss
widen_each lo hi c r ss all h = each_weaker (AreApartIn c.lo c.hi r) (AreApartIn lo hi r) ss (λ s apart x y from to here there.
    let in_it = all x from to here.left here.right in apart x y in_it.0 in_it.1 here there) h

pub widen : (lo hi : ℕ) (c : Columns) (rects : List Rect) → AllByRecursion (HasAllIn lo hi c) rects → Pairwise (AreApartIn c.lo c.hi) rects
    → Pairwise (AreApartIn lo hi) rects
widen lo hi c [] all h = tt
widen lo hi c (r ∷ rs) all h = (widen_each lo hi c r rs all.0 h.0, widen lo hi c rs all.1 h.1)

pub tells_widely : (lo hi : ℕ) (c : Columns) (rects : List Rect) (found : Option Point) → AllByRecursion (HasAllIn lo hi c) rects
    → Tells c.lo c.hi rects found → Tells lo hi rects found
tells_widely lo hi c rects (Some p) all h = h
tells_widely lo hi c rects None all h = widen lo hi c rects all h
