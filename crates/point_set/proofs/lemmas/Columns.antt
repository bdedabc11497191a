-- The points of rectangles, column by column.
use Rattle.std.proofs.Common.{◌≡◌, ℕ, zero, suc, ◌+◌, ◌-◌, ◌*◌, ◌<◌, ◌≤◌, ◌^◌, nat_le, true, List, [], ◌∷◌, ◌++◌, All, Contains, length, get_or, inl, inr, ◌∙◌, sym, subst, arith, add-one}
use Rattle.std.specs.List.{range_with_len, flat_map}
use Rattle.std.specs.List.Sorted.{IsStrictlyIncreasing}
use Rattle.std.proofs.lemmas.Bool.{cases_Bool, cases_lt, and_parts, leb-true, le-leb}
use Rattle.std.proofs.lemmas.List.{get_or_default}
use Rattle.std.proofs.lemmas.List.Elements.{Contains-append_left, Contains-append_right, Contains-append_cases, All-head, All-tail, All-from_get_or}
use Rattle.std.proofs.lemmas.List.FromFn.{length-range_with_len, get_or-range_with_len}
use Rattle.point_set.specs.declared.rect.Rect.{Rect}
use Rattle.point_set.specs.Rects.{has_column, column_points, columns_end, rect_points, ComesBefore, AreBanded, AreSmall, Holds, Has, rect_at}
use Rattle.point_set.proofs.lemmas.Bands.{before_trans, either, later}

-- ---- Ranges, and lists made along them.

in_range : (a n p : ℕ) → Contains (range_with_len a n) p → (a ≤ p) × (p < a + n)
in_range a n p h =
    let lt : h.0 < n = omega (arith, h.1, length-range_with_len a n) in
    let e : p ≡ a + h.0 = sym h.2 ∙ get_or-range_with_len a n h.0 p lt in
    (omega arith, omega arith)

of_range : (a n p : ℕ) → a ≤ p → p < a + n → Contains (range_with_len a n) p
of_range a n p low high =
    let lt : p - a < n = omega arith in
    let e : a + (p - a) ≡ p = omega arith in
    (p - a, omega (arith, lt, length-range_with_len a n), get_or-range_with_len a n (p - a) p lt ∙ e)

in_columns : (f : ℕ → List ℕ) (a n p : ℕ) → Contains (flat_map f (range_with_len a n)) p → (x : ℕ) × (a ≤ x) × (x < a + n)
    × Contains (f x) p
in_columns f a zero p h = absurd (omega (arith, h.1))
in_columns f a (suc n) p h = elim (Contains-append_cases (f a) (flat_map f (range_with_len (a + 1) n)) p h) [
  | inl here ↦ (a, omega arith, omega arith, here)
  | inr behind ↦ let r = in_columns f (a + 1) n p behind in (r.0, omega (arith, r.1), omega (arith, r.2), r.3)
]

of_columns : (f : ℕ → List ℕ) (a n x p : ℕ) → a ≤ x → x < a + n → Contains (f x) p → Contains (flat_map f (range_with_len a n)) p
of_columns f a zero x p low high h = absurd (omega arith)
of_columns f a (suc n) x p low high h = elim (cases_lt a x) [
  | inl behind ↦ Contains-append_right (f a) (flat_map f (range_with_len (a + 1) n)) p
      (of_columns f (a + 1) n x p (omega arith) (omega arith) h)
  | inr le ↦ let e : x ≡ a = omega arith in Contains-append_left (f a) (flat_map f (range_with_len (a + 1) n)) p
      (subst (λ z. Contains (f z) p) e h)
]

-- ---- Which points there are.

in_rect : (x : ℕ) (r : Rect) (p : ℕ) → Contains (column_points x r) p → (y : ℕ) × Holds r x y × (p ≡ x * 2 ^ 32 + y)
in_rect x r p h = elim (cases_Bool (has_column x r)) [
  | inl so ↦
      let h' : Contains (range_with_len (x * 2 ^ 32 + r.y0) (r.y1 + 1 - r.y0)) p = rw so at h in
      let c = and_parts (nat_le r.x0 x) (nat_le x r.x1) so in
      let b = in_range (x * 2 ^ 32 + r.y0) (r.y1 + 1 - r.y0) p h' in
      let low = b.0 in
      let high = b.1 in
      (p - x * 2 ^ 32, record { left = leb-true _ _ c.0; right = leb-true _ _ c.1; low = omega arith; high = omega arith }, omega arith)
  | inr nay ↦
      let h' : Contains [] p = rw nay at h in
      absurd (omega (arith, h'.1))
]

of_rect : (x y : ℕ) (r : Rect) → Holds r x y → Contains (column_points x r) (x * 2 ^ 32 + y)
of_rect x y r h =
    let low = h.low in
    let high = h.high in
    rw (le-leb r.x0 x h.left, le-leb x r.x1 h.right)
    (of_range (x * 2 ^ 32 + r.y0) (r.y1 + 1 - r.y0) (x * 2 ^ 32 + y) (omega arith) (omega arith))

-- a point of a column, in some rectangle
pub record InColumn (rects : List Rect) (x p : ℕ) : Type 0 where
  pub y : ℕ
  pub has : Has rects x y
  pub is : p ≡ x * 2 ^ 32 + y

in_column : (x : ℕ) (rects : List Rect) (p : ℕ) → Contains (flat_map (column_points x) rects) p → InColumn rects x p
in_column x [] p h = absurd (omega (arith, h.1))
in_column x (r ∷ rs) p h = elim (Contains-append_cases (column_points x r) (flat_map (column_points x) rs) p h) [
  | inl here ↦ let i = in_rect x r p here in record { y = i.0; has = record { place = 0; within = omega arith; holds = i.1 }; is = i.2 }
  | inr behind ↦ let i = in_column x rs p behind in
      record { y = i.y; has = record { place = suc i.has.place; within = omega (arith, i.has.within); holds = i.has.holds }; is = i.is }
]

of_column : (x y : ℕ) (rects : List Rect) (k : ℕ) → k < length rects → Holds (rect_at rects k) x y
    → Contains (flat_map (column_points x) rects) (x * 2 ^ 32 + y)
of_column x y [] k lt h = absurd (omega arith)
of_column x y (r ∷ rs) zero lt h = Contains-append_left (column_points x r) (flat_map (column_points x) rs) (x * 2 ^ 32 + y)
    (of_rect x y r h)
of_column x y (r ∷ rs) (suc k) lt h = Contains-append_right (column_points x r) (flat_map (column_points x) rs) (x * 2 ^ 32 + y)
    (of_column x y rs k (omega arith) h)

below_end : (rects : List Rect) (k : ℕ) → k < length rects → (rect_at rects k).x1 < columns_end rects
below_end [] k lt = absurd (omega arith)
below_end (r ∷ rs) zero lt = omega arith
below_end (r ∷ rs) (suc k) lt = let h = below_end rs k (omega arith) in omega (arith, h)

-- the points are just those of the columns and rows of the rectangles
pub of_has : (rects : List Rect) (x y : ℕ) → Has rects x y → Contains (rect_points rects) (x * 2 ^ 32 + y)
of_has rects x y h =
    let right = h.holds.right in
    let end = below_end rects h.place h.within in
    of_columns (λ z. flat_map (column_points z) rects) 0 (columns_end rects) x (x * 2 ^ 32 + y) (omega arith) (omega arith)
    (of_column x y rects h.place h.within h.holds)

-- a point, with its column and row
pub record At (rects : List Rect) (p : ℕ) : Type 0 where
  pub x : ℕ
  pub y : ℕ
  pub has : Has rects x y
  pub x_fits : x < 2 ^ 32
  pub y_fits : y < 2 ^ 32
  pub is : p ≡ x * 2 ^ 32 + y

pub to_has : (rects : List Rect) (p : ℕ) → AreSmall rects → Contains (rect_points rects) p → At rects p
to_has rects p small h =
    let c = in_columns (λ z. flat_map (column_points z) rects) 0 (columns_end rects) p h in
    let i = in_column c.0 rects p c.3 in
    let fits = small i.has.place (record { x0 = 0; x1 = 0; y0 = 0; y1 = 0 }) i.has.within in
    let right = i.has.holds.right in
    let high = i.has.holds.high in
    record { x = c.0; y = i.y; has = i.has; x_fits = omega (arith, fits.0, right); y_fits = omega (arith, fits.1, high); is = i.is }

pub has_at : (rects : List Rect) (x y : ℕ) → AreSmall rects → y < 2 ^ 32 → Contains (rect_points rects) (x * 2 ^ 32 + y) → Has rects x y
has_at rects x y small fits h =
    let a = to_has rects (x * 2 ^ 32 + y) small h in
    let is = a.is in
    let y_fits = a.y_fits in
    let same_x : a.x ≡ x = omega arith in
    let same_y : a.y ≡ y = omega arith in
    subst (λ z. Has rects z y) same_x (subst (λ z. Has rects a.x z) same_y a.has)

pub bounded : (rects : List Rect) → AreSmall rects → All (λ p. p < 2 ^ 64) (rect_points rects)
bounded rects small = All-from_get_or (λ p. p < 2 ^ 64) (rect_points rects) 0
    (λ i lt. let p = get_or (rect_points rects) i 0 in
    let a = to_has rects p small (i, lt, get_or_default (rect_points rects) i p 0 lt) in
    let is = a.is in
    let x_fits = a.x_fits in
    let y_fits = a.y_fits in
    omega arith)

-- ---- They ascend.

-- each number is at least `low` and above the number before it, and none is above `high`
abbrev pub RisesTo : ℕ → ℕ → List ℕ → Type 0
RisesTo low high [] = low ≤ high
RisesTo low high (p ∷ ps) = (low ≤ p) × RisesTo (p + 1) high ps

rises_lower : (less low high : ℕ) (ps : List ℕ) → less ≤ low → RisesTo low high ps → RisesTo less high ps
rises_lower less low high [] le h = omega (arith, h)
rises_lower less low high (p ∷ ps) le h = (omega (arith, h.0), h.1)

rises_append : (low mid high : ℕ) (ps qs : List ℕ) → RisesTo low mid ps → RisesTo mid high qs → RisesTo low high (ps ++ qs)
rises_append low mid high [] qs h k = rises_lower low mid high qs h k
rises_append low mid high (p ∷ ps) qs h k = (h.0, rises_append (p + 1) mid high ps qs h.1 k)

rises_range : (low a n high : ℕ) → low ≤ a → a + n ≤ high → RisesTo low high (range_with_len a n)
rises_range low a zero high le end = omega arith
rises_range low a (suc n) high le end = (le, rises_range (a + 1) (a + 1) n high (omega arith) (omega arith))

rises_columns : (f : ℕ → List ℕ) (a n : ℕ) → ((x : ℕ) → RisesTo (x * 2 ^ 32) ((x + 1) * 2 ^ 32) (f x))
    → RisesTo (a * 2 ^ 32) ((a + n) * 2 ^ 32) (flat_map f (range_with_len a n))
rises_columns f a zero h = omega arith
rises_columns f a (suc n) h =
    let e : a + suc n ≡ a + 1 + n = omega arith in
    rw e (rises_append (a * 2 ^ 32) ((a + 1) * 2 ^ 32) ((a + 1 + n) * 2 ^ 32) (f a) (flat_map f (range_with_len (a + 1) n)) (h a)
    (rises_columns f (a + 1) n h))

-- a rectangle comes before each of these
abbrev pub BeforeAll : Rect → List Rect → Type 0
BeforeAll r [] = Unit {0}
BeforeAll r (s ∷ ss) = ComesBefore r s × BeforeAll r ss

-- each has a point, fits, and comes before each later one
abbrev pub Chain : List Rect → Type 0
Chain [] = Unit {0}
Chain (r ∷ rs) = (r.y0 ≤ r.y1) × (r.y1 < 2 ^ 32) × BeforeAll r rs × Chain rs

before_all : (r s : Rect) (ss : List Rect) → s.x0 ≤ s.x1 → s.y0 ≤ s.y1 → ComesBefore r s → BeforeAll s ss → BeforeAll r ss
before_all r s [] wide high h all = tt
before_all r s (t ∷ ts) wide high h all = (before_trans r s t wide high h all.0, before_all r s ts wide high h all.1)

chain : (rects : List Rect) → AreBanded rects → AreSmall rects → Chain rects
chain [] h small = tt
chain (r ∷ []) h small = (
  (All-head (λ (r : Rect). (r.x0 ≤ r.x1) × (r.y0 ≤ r.y1)) r [] h.some).1,
  (All-head (λ (r : Rect). (r.x1 < 2 ^ 32) × (r.y1 < 2 ^ 32)) r [] small).1,
  tt,
  tt,
)
chain (r ∷ s ∷ rs) h small =
    let here = All-head (λ (r : Rect). (r.x0 ≤ r.x1) × (r.y0 ≤ r.y1)) r (s ∷ rs) h.some in
    let fits = All-head (λ (r : Rect). (r.x1 < 2 ^ 32) × (r.y1 < 2 ^ 32)) r (s ∷ rs) small in
    let more = later r s rs h in
    let next = All-head (λ (r : Rect). (r.x0 ≤ r.x1) × (r.y0 ≤ r.y1)) s rs more.some in
    let rest = chain (s ∷ rs) more (All-tail (λ (r : Rect). (r.x1 < 2 ^ 32) × (r.y1 < 2 ^ 32)) r (s ∷ rs) small) in
    let first : ComesBefore r s = either r s (h.order 0 r (omega arith)) in
    (here.1, fits.1, (first, before_all r s rs next.0 next.1 first rest.2), rest)

-- where a rectangle has the column, its points there are at least `low`
abbrev pub AllAbove : ℕ → ℕ → List Rect → Type 0
AllAbove x low [] = Unit {0}
AllAbove x low (r ∷ rs) = (has_column x r ≡ true → low ≤ x * 2 ^ 32 + r.y0) × AllAbove x low rs

above_first : (x : ℕ) (r : Rect) (rs : List Rect) → has_column x r ≡ true → BeforeAll r rs → AllAbove x (x * 2 ^ 32 + r.y1 + 1) rs
above_first x r [] so all = tt
above_first x r (s ∷ ss) so all = (
  λ also. elim all.0 [
    | inl left ↦ absurd (omega (
      arith,
      left,
      leb-true x r.x1 (and_parts (nat_le r.x0 x) (nat_le x r.x1) so).1,
      leb-true s.x0 x (and_parts (nat_le s.x0 x) (nat_le x s.x1) also).0,
    ))
    | inr above ↦ omega (arith, above.2)
  ],
  above_first x r ss so all.1,
)

rises_column : (x low : ℕ) (rects : List Rect) → low ≤ (x + 1) * 2 ^ 32 → Chain rects → AllAbove x low rects
    → RisesTo low ((x + 1) * 2 ^ 32) (flat_map (column_points x) rects)
rises_column x low [] le h above = le
rises_column x low (r ∷ rs) le h above = elim (cases_Bool (has_column x r)) [
  | inl so ↦
      let high = h.0 in
      let fits = h.1 in
      let from = above.0 so in
      let mid : x * 2 ^ 32 + r.y1 + 1 ≤ (x + 1) * 2 ^ 32 = omega (arith, fits) in
      rw so (rises_append low (x * 2 ^ 32 + r.y1 + 1) ((x + 1) * 2 ^ 32) (range_with_len (x * 2 ^ 32 + r.y0) (r.y1 + 1 - r.y0))
      (flat_map (column_points x) rs)
      (rises_range low (x * 2 ^ 32 + r.y0) (r.y1 + 1 - r.y0) (x * 2 ^ 32 + r.y1 + 1) from (omega arith))
      (rises_column x (x * 2 ^ 32 + r.y1 + 1) rs mid h.3 (above_first x r rs so h.2)))
  | inr nay ↦ rw nay (rises_column x low rs le h.3 above.1)
]

above_zero : (x : ℕ) (rects : List Rect) → AllAbove x (x * 2 ^ 32) rects
above_zero x [] = tt
above_zero x (r ∷ rs) = (λ _. omega arith, above_zero x rs)

increasing : (low high : ℕ) (ps : List ℕ) → RisesTo low high ps → IsStrictlyIncreasing ps
increasing low high [] h k lt = absurd (omega arith)
increasing low high (p ∷ []) h k lt = absurd (omega arith)
increasing low high (p ∷ q ∷ ps) h zero lt = omega (arith, h.1.0)
increasing low high (p ∷ q ∷ ps) h (suc k) lt =
    rw (add-one (suc k)) (rw (add-one k) at (increasing (p + 1) high (q ∷ ps) h.1 k (omega arith)))

-- the points of banded rectangles ascend
pub points_ascend : (rects : List Rect) → AreBanded rects → AreSmall rects → IsStrictlyIncreasing (rect_points rects)
points_ascend rects h small = increasing (0 * 2 ^ 32) ((0 + columns_end rects) * 2 ^ 32) (rect_points rects)
    (rises_columns (λ x. flat_map (column_points x) rects) 0 (columns_end rects)
    (λ x. rises_column x (x * 2 ^ 32) rects (omega arith) (chain rects h small) (above_zero x rects)))
