-- What a search among rectangles finds in a column.
use Rattle.std.proofs.Common.{◌≡◌, ◌↔◌, Some, None, ℕ, ◌+◌, ◌*◌, ◌<◌, ◌≤◌, ◌^◌, max, ◌⊎◌, List, length, inl, inr, sym, subst, refl, arith}
use Rattle.std.proofs.lemmas.Bool.{cases_lt}
use Rattle.point_set.specs.Least.{IsLeast}
use Rattle.point_set.specs.declared.rect.Rect.{Rect}
use Rattle.point_set.specs.Rects.{AreRects, Has, HasColumn, Parts, EndBelow, EndFrom, IsFirstFrom, IsPast, rect_at}
use Rattle.point_set.proofs.lemmas.Bands.{wide, high as tall, y_fits, comes_before}

abbrev pub none : Rect
none = record { x0 = 0; x1 = 0; y0 = 0; y1 = 0 }

-- rectangles before a column, and those that go on to it
pub left_of : (rects : List Rect) (x k j : ℕ) → Parts rects (x * 2 ^ 32) k → j < k → j < length rects → (rect_at rects j).x1 < x
left_of rects x k j parts lt within = omega (arith, parts.0 j none (omega arith) lt)

pub up_to : (rects : List Rect) (x k j : ℕ) → AreRects rects → Parts rects (x * 2 ^ 32) k → k ≤ j → j < length rects
    → x ≤ (rect_at rects j).x1
up_to rects x k j are parts le within = omega (arith, parts.1 j none le within, y_fits rects j are.1 within)

-- a later rectangle begins no further left
pub not_left : (rects : List Rect) (j k : ℕ) → AreRects rects → j ≤ k → k < length rects → (rect_at rects j).x0 ≤ (rect_at rects k).x0
not_left rects j k are le within = elim (cases_lt j k) [
  | inl lt ↦ elim (comes_before rects j k are.0 lt within) [
    | inl right ↦ omega (arith, right, wide rects j are.0 (omega arith))
    | inr above ↦ omega (arith, above.0)
  ]
  | inr ge ↦ let e : k ≡ j = omega arith in rw e (omega arith)
]

-- rectangles that share a column stand in one band, the earlier one below the later
abbrev pub InColumn : List Rect → ℕ → ℕ → Type 0
InColumn rects x j = ((rect_at rects j).x0 ≤ x) × (x ≤ (rect_at rects j).x1)

pub stacked : (rects : List Rect) (x j k : ℕ) → AreRects rects → j < k → k < length rects → InColumn rects x j → InColumn rects x k
    → ((rect_at rects j).x0 ≡ (rect_at rects k).x0) × ((rect_at rects j).x1 ≡ (rect_at rects k).x1)
    × ((rect_at rects j).y1 < (rect_at rects k).y0)
stacked rects x j k are lt within h i = elim (comes_before rects j k are.0 lt within) [
  | inl right ↦ absurd (omega (arith, right, h.1, i.0))
  | inr above ↦ above
]

pub same_band : (rects : List Rect) (x j k : ℕ) → AreRects rects → j < length rects → k < length rects → InColumn rects x j
    → InColumn rects x k → ((rect_at rects j).x0 ≡ (rect_at rects k).x0) × ((rect_at rects j).x1 ≡ (rect_at rects k).x1)
same_band rects x j k are jn kn h i = elim (cases_lt j k) [
  | inl lt ↦ let s = stacked rects x j k are lt kn h i in (s.0, s.1)
  | inr le ↦ elim (cases_lt k j) [
    | inl lt ↦ let s = stacked rects x k j are lt jn i h in (sym s.0, sym s.1)
    | inr ge ↦ let e : j ≡ k = omega arith in rw e (refl, refl)
  ]
]

-- no rectangle has a column
pub none_past : (rects : List Rect) (x k z y : ℕ) → Parts rects (x * 2 ^ 32) k → length rects ≤ k → x ≤ z → Has rects z y → ⊥
none_past rects x k z y parts past le h =
    let right = h.holds.right in
    omega (arith, left_of rects x k h.place parts (omega (arith, h.within)) h.within)

pub none_between : (rects : List Rect) (x k z y : ℕ) → AreRects rects → Parts rects (x * 2 ^ 32) k → k < length rects → x ≤ z
    → z < (rect_at rects k).x0 → Has rects z y → ⊥
none_between rects x k z y are parts lt le below h =
    let right = h.holds.right in
    let left = h.holds.left in
    elim (cases_lt h.place k) [
      | inl before ↦ omega (arith, left_of rects x k h.place parts before h.within)
      | inr from ↦ omega (arith, not_left rects k h.place are from h.within)
    ]

-- where column x is in the rectangle at k, the first rectangle that ends at row y or after it in this band
pub ends_from : (rects : List Rect) (x y k j i : ℕ) → AreRects rects → k < length rects → InColumn rects x k
    → Parts rects ((rect_at rects k).x1 * 2 ^ 32 + y) j → i < length rects → InColumn rects x i → y ≤ (rect_at rects i).y1 → j ≤ i
ends_from rects x y k j i are kn here parts within col le = elim (cases_lt i j) [
  | inl lt ↦ let same = same_band rects x i k are within kn col here in absurd (omega (arith, parts.0 i none (omega arith) lt, same.1))
  | inr ge ↦ ge
]

pub goes_on : (rects : List Rect) (x y k j i : ℕ) → AreRects rects → InColumn rects x k → Parts rects ((rect_at rects k).x1 * 2 ^ 32 + y) j
    → j ≤ i → i < length rects → x ≤ (rect_at rects i).x1
goes_on rects x y k j i are here parts le within = omega (arith, parts.1 i none le within, y_fits rects i are.1 within, here.1)

pub reaches : (rects : List Rect) (x y k j i : ℕ) → AreRects rects → k < length rects → InColumn rects x k
    → Parts rects ((rect_at rects k).x1 * 2 ^ 32 + y) j → j ≤ i → i < length rects → (rect_at rects i).x0 ≤ x → y ≤ (rect_at rects i).y1
reaches rects x y k j i are kn here parts le within left =
    let right = goes_on rects x y k j i are here parts le within in
    let same = same_band rects x i k are within kn (left, right) here in
    omega (arith, parts.1 i none le within, same.1)

pub no_row_past : (rects : List Rect) (x y k j v : ℕ) → AreRects rects → k < length rects → InColumn rects x k
    → Parts rects ((rect_at rects k).x1 * 2 ^ 32 + y) j → length rects ≤ j → Has rects x v → y ≤ v → ⊥
no_row_past rects x y k j v are kn here parts past h le =
    let high = h.holds.high in
    omega (arith, ends_from rects x y k j h.place are kn here parts h.within (h.holds.left, h.holds.right) (omega arith), h.within)

pub no_row_right : (rects : List Rect) (x y k j v : ℕ) → AreRects rects → k < length rects → InColumn rects x k
    → Parts rects ((rect_at rects k).x1 * 2 ^ 32 + y) j → x < (rect_at rects j).x0 → Has rects x v → y ≤ v → ⊥
no_row_right rects x y k j v are kn here parts right h le =
    let high = h.holds.high in
    let left = h.holds.left in
    let from = ends_from rects x y k j h.place are kn here parts h.within (h.holds.left, h.holds.right) (omega arith) in
    omega (arith, not_left rects j h.place are from h.within)

pub row_here : (rects : List Rect) (x y k j : ℕ) → AreRects rects → k < length rects → InColumn rects x k
    → Parts rects ((rect_at rects k).x1 * 2 ^ 32 + y) j → j < length rects → (rect_at rects j).x0 ≤ x
    → IsLeast (λ v. Has rects x v × (y ≤ v)) (Some (max y (rect_at rects j).y0))
row_here rects x y k j are kn here parts within left =
    let right = goes_on rects x y k j j are here parts (omega arith) within in
    let ends = reaches rects x y k j j are kn here parts (omega arith) within left in
    let thick = tall rects j are.0 within in (
      (
        record { place = j; within = within; holds = record { left = left; right = right; low = omega arith; high = omega arith } },
        omega arith,
      ),
      λ v h.
          let has = h.0 in
          let low = has.holds.low in
          let top = has.holds.high in
          let from = ends_from rects x y k j has.place are kn here parts has.within (has.holds.left, has.holds.right)
          (omega (arith, h.1)) in
          elim (cases_lt j has.place) [
            | inl lt ↦ omega (
              arith,
              h.1,
              (stacked rects x j has.place are lt has.within (left, right) (has.holds.left, has.holds.right)).2,
              thick,
            )
            | inr ge ↦ let e : has.place ≡ j = omega arith in omega (arith, h.1, subst (λ i. (rect_at rects i).y0 ≤ v) e low)
          ],
    )

-- ---- Gaps in a column.

pub gap_is : (rects : List Rect) (x y gap : ℕ) → y ≤ gap → gap < 2 ^ 32 → ((v : ℕ) → y ≤ v → v < gap → Has rects x v)
    → (Has rects x gap → ⊥) → IsLeast (λ v. ¬ Has rects x v × (y ≤ v) × (v < 2 ^ 32)) (Some gap)
gap_is rects x y gap le fits filled missed = (
  (missed, le, fits),
  λ v h. elim (cases_lt v gap) [ inl lt ↦ absurd (h.0 (filled v h.1 lt)) | inr far ↦ far ],
)

pub no_gap : (rects : List Rect) (x y gap : ℕ) → 2 ^ 32 ≤ gap → ((v : ℕ) → y ≤ v → v < gap → Has rects x v)
    → IsLeast (λ v. ¬ Has rects x v × (y ≤ v) × (v < 2 ^ 32)) None
no_gap rects x y gap far filled v h = h.0 (filled v h.1 (omega (arith, h.2)))

pub missed_past : (rects : List Rect) (x gap k : ℕ) → EndBelow rects x gap k → length rects ≤ k → Has rects x gap → ⊥
missed_past rects x gap k behind past h =
    let high = h.holds.high in
    omega (arith, behind h.place (omega (arith, h.within)) h.within h.holds.left h.holds.right)

pub missed_here : (rects : List Rect) (x gap k : ℕ) → AreRects rects → EndBelow rects x gap k → EndFrom rects x gap k → k < length rects
    → (x < (rect_at rects k).x0) ⊎ (gap < (rect_at rects k).y0) → Has rects x gap → ⊥
missed_here rects x gap k are behind ahead within off h =
    let high = h.holds.high in
    let low = h.holds.low in
    let left = h.holds.left in
    elim (cases_lt h.place k) [
      | inl before ↦ omega (arith, behind h.place before h.within h.holds.left h.holds.right)
      | inr from ↦ elim off [
        | inl right ↦ omega (arith, not_left rects k h.place are from h.within)
        | inr above ↦ elim (cases_lt k h.place) [
          | inl later ↦
              let mine = not_left rects k h.place are from h.within in
              let s = stacked rects x k h.place are later h.within (omega arith, (ahead k (omega arith) within).0) (
                h.holds.left,
                h.holds.right,
              ) in
              omega (arith, s.2, tall rects k are.0 within)
          | inr ge ↦ let e : h.place ≡ k = omega arith in omega (arith, subst (λ i. (rect_at rects i).y0 ≤ gap) e low)
        ]
      ]
    ]

-- one rectangle more that has the gap
pub filled_more : (rects : List Rect) (x y gap k : ℕ) → ((v : ℕ) → y ≤ v → v < gap → Has rects x v) → k < length rects
    → (rect_at rects k).x0 ≤ x → x ≤ (rect_at rects k).x1 → (rect_at rects k).y0 ≤ gap → (v : ℕ) → y ≤ v → v < (rect_at rects k).y1 + 1
    → Has rects x v
filled_more rects x y gap k filled within left right low v le lt = elim (cases_lt v gap) [
  | inl before ↦ filled v le before
  | inr from ↦ record { place = k; within = within; holds = record { left = left; right = right; low = omega arith; high = omega arith } }
]

pub below_more : (rects : List Rect) (x gap k : ℕ) → EndBelow rects x gap k → EndFrom rects x gap k → k < length rects
    → (rect_at rects k).x0 ≤ x → EndBelow rects x ((rect_at rects k).y1 + 1) (k + 1)
below_more rects x gap k behind ahead within here j lt jn left right = elim (cases_lt j k) [
  | inl before ↦ omega (arith, behind j before jn left right, (ahead k (omega arith) within).1 here)
  | inr ge ↦ let e : j ≡ k = omega arith in rw e (omega arith)
]

pub from_more : (rects : List Rect) (x gap k : ℕ) → AreRects rects → EndFrom rects x gap k → k < length rects → (rect_at rects k).x0 ≤ x
    → EndFrom rects x ((rect_at rects k).y1 + 1) (k + 1)
from_more rects x gap k are ahead within here j le jn = (
  (ahead j (omega arith) jn).0,
  λ left. omega (
    arith,
    (stacked rects x k j are (omega arith) jn (here, (ahead k (omega arith) within).0) (left, (ahead j (omega arith) jn).0)).2,
    tall rects j are.0 jn,
  ),
)

-- before the first search
pub below_first : (rects : List Rect) (x y k j : ℕ) → AreRects rects → k < length rects → InColumn rects x k
    → Parts rects ((rect_at rects k).x1 * 2 ^ 32 + y) j → EndBelow rects x y j
below_first rects x y k j are kn here parts i lt within left right =
    let same = same_band rects x i k are within kn (left, right) here in
    omega (arith, parts.0 i none (omega arith) lt, same.1)

pub from_first : (rects : List Rect) (x y k j : ℕ) → AreRects rects → k < length rects → InColumn rects x k
    → Parts rects ((rect_at rects k).x1 * 2 ^ 32 + y) j → EndFrom rects x y j
from_first rects x y k j are kn here parts i le within = (
  goes_on rects x y k j i are here parts le within,
  λ left. reaches rects x y k j i are kn here parts le within left,
)

-- a column in which no rectangle stands has no row
pub gap_at_once : (rects : List Rect) (x y : ℕ) → y < 2 ^ 32 → ((v : ℕ) → Has rects x v → ⊥)
    → IsLeast (λ v. ¬ Has rects x v × (y ≤ v) × (v < 2 ^ 32)) (Some y)
gap_at_once rects x y fits bare = gap_is rects x y y (omega arith) fits (λ v le lt. absurd (omega arith)) (bare y)

-- ---- Columns.

pub column_here : (rects : List Rect) (x k : ℕ) → AreRects rects → Parts rects (x * 2 ^ 32) k → k < length rects
    → IsLeast (λ z. HasColumn rects z × (x ≤ z)) (Some (max x (rect_at rects k).x0))
column_here rects x k are parts within =
    let right = up_to rects x k k are parts (omega arith) within in
    let broad = wide rects k are.0 within in (
      (
        (
          (rect_at rects k).y0,
          record {
            place = k;
            within = within;
            holds =
                record { left = omega arith; right = omega arith; low = omega arith; high = tall rects k are.0 within };
          },
        ),
        omega arith,
      ),
      λ z h. elim (cases_lt z (rect_at rects k).x0) [
        | inl lt ↦ absurd (none_between rects x k z h.0.0 are parts within h.1 lt h.0.1)
        | inr ge ↦ omega (arith, h.1)
      ],
    )

pub no_column : (rects : List Rect) (x k : ℕ) → Parts rects (x * 2 ^ 32) k → length rects ≤ k
    → IsLeast (λ z. HasColumn rects z × (x ≤ z)) None
no_column rects x k parts past z h = none_past rects x k z h.0.0 parts past h.1 h.0.1

-- columns of one band have points in the same rows
pub moved : (rects : List Rect) (k x z y : ℕ) → AreRects rects → k < length rects → InColumn rects x k → InColumn rects z k → Has rects x y
    → Has rects z y
moved rects k x z y are kn here there h =
    let same = same_band rects x h.place k are h.within kn (h.holds.left, h.holds.right) here in
    record {
      place = h.place;
      within = h.within;
      holds =
          record { left = omega (arith, same.0, there.0); right = omega (arith, same.1, there.1); low = h.holds.low; high = h.holds.high };
    }

-- ---- From what is found.

pub next_right : (rects : List Rect) (x y : ℕ) (r : Rect) → AreRects rects → IsFirstFrom rects (x * 2 ^ 32) r → x < r.x0
    → IsLeast (λ v. Has rects x v × (y ≤ v)) None
next_right rects x y r are f lt v h = none_between rects x f.place x v are f.parts f.within (omega arith)
    (subst (λ (q : Rect). x < q.x0) (sym f.is) lt) h.0

-- the column is in the rectangle that was found
pub in_found : (rects : List Rect) (x : ℕ) (r : Rect) → AreRects rects → (f : IsFirstFrom rects (x * 2 ^ 32) r) → r.x0 ≤ x
    → InColumn rects x f.place
in_found rects x r are f le = (
  subst (λ (q : Rect). q.x0 ≤ x) (sym f.is) le,
  up_to rects x f.place f.place are f.parts (omega arith) f.within,
)

same_parts : (rects : List Rect) (y j : ℕ) (q r : Rect) → q ≡ r → Parts rects (r.x1 * 2 ^ 32 + y) j → Parts rects (q.x1 * 2 ^ 32 + y) j
same_parts rects y j q r e h = subst (λ (s : Rect). Parts rects (s.x1 * 2 ^ 32 + y) j) (sym e) h

pub next_past : (rects : List Rect) (x y : ℕ) (r : Rect) → AreRects rects → IsFirstFrom rects (x * 2 ^ 32) r → r.x0 ≤ x
    → IsPast rects (r.x1 * 2 ^ 32 + y) → IsLeast (λ v. Has rects x v × (y ≤ v)) None
next_past rects x y r are f le g v h = no_row_past rects x y f.place g.place v are f.within (in_found rects x r are f le)
    (same_parts rects y g.place (rect_at rects f.place) r f.is g.parts) g.past h.0 h.1

pub next_off : (rects : List Rect) (x y : ℕ) (r s : Rect) → AreRects rects → IsFirstFrom rects (x * 2 ^ 32) r → r.x0 ≤ x
    → IsFirstFrom rects (r.x1 * 2 ^ 32 + y) s → x < s.x0 → IsLeast (λ v. Has rects x v × (y ≤ v)) None
next_off rects x y r s are f le g lt v h = no_row_right rects x y f.place g.place v are f.within (in_found rects x r are f le)
    (same_parts rects y g.place (rect_at rects f.place) r f.is g.parts) (subst (λ (q : Rect). x < q.x0) (sym g.is) lt) h.0 h.1

pub next_on : (rects : List Rect) (x y : ℕ) (r s : Rect) → AreRects rects → IsFirstFrom rects (x * 2 ^ 32) r → r.x0 ≤ x
    → IsFirstFrom rects (r.x1 * 2 ^ 32 + y) s → s.x0 ≤ x → IsLeast (λ v. Has rects x v × (y ≤ v)) (Some (max y s.y0))
next_on rects x y r s are f le g ge =
    subst (λ (q : Rect). IsLeast (λ v. Has rects x v × (y ≤ v)) (Some (max y q.y0))) g.is
    (row_here rects x y f.place g.place are f.within (in_found rects x r are f le)
    (same_parts rects y g.place (rect_at rects f.place) r f.is g.parts) g.within (subst (λ (q : Rect). q.x0 ≤ x) (sym g.is) ge))

pub gap_right : (rects : List Rect) (x y : ℕ) (r : Rect) → AreRects rects → y < 2 ^ 32 → IsFirstFrom rects (x * 2 ^ 32) r → x < r.x0
    → IsLeast (λ v. ¬ Has rects x v × (y ≤ v) × (v < 2 ^ 32)) (Some y)
gap_right rects x y r are fits f lt = gap_at_once rects x y fits
    (λ v h. none_between rects x f.place x v are f.parts f.within (omega arith) (subst (λ (q : Rect). x < q.x0) (sym f.is) lt) h)

pub gap_below : (rects : List Rect) (x y k : ℕ) (r : Rect) → AreRects rects → IsFirstFrom rects (x * 2 ^ 32) r → r.x0 ≤ x
    → Parts rects (r.x1 * 2 ^ 32 + y) k → EndBelow rects x y k
gap_below rects x y k r are f le parts = below_first rects x y f.place k are f.within (in_found rects x r are f le)
    (same_parts rects y k (rect_at rects f.place) r f.is parts)

pub gap_ahead : (rects : List Rect) (x y k : ℕ) (r : Rect) → AreRects rects → IsFirstFrom rects (x * 2 ^ 32) r → r.x0 ≤ x
    → Parts rects (r.x1 * 2 ^ 32 + y) k → EndFrom rects x y k
gap_ahead rects x y k r are f le parts = from_first rects x y f.place k are f.within (in_found rects x r are f le)
    (same_parts rects y k (rect_at rects f.place) r f.is parts)

pub column_found : (rects : List Rect) (x : ℕ) (r : Rect) → AreRects rects → IsFirstFrom rects (x * 2 ^ 32) r
    → IsLeast (λ z. HasColumn rects z × (x ≤ z)) (Some (max x r.x0))
column_found rects x r are f = subst (λ (q : Rect). IsLeast (λ z. HasColumn rects z × (x ≤ z)) (Some (max x q.x0))) f.is
    (column_here rects x f.place are f.parts f.within)

-- ---- Columns that are alike.

pub alike_before : (rects : List Rect) (x z y : ℕ) (r : Rect) → AreRects rects → IsFirstFrom rects (x * 2 ^ 32) r → x < r.x0 → x ≤ z
    → z < r.x0 → Has rects x y ↔ Has rects z y
alike_before rects x z y r are f here le lt = (
  λ h. absurd (none_between rects x f.place x y are f.parts f.within (omega arith) (subst (λ (q : Rect). x < q.x0) (sym f.is) here) h),
  λ h. absurd (none_between rects x f.place z y are f.parts f.within le (subst (λ (q : Rect). z < q.x0) (sym f.is) lt) h),
)

pub alike_inside : (rects : List Rect) (x z y : ℕ) (r : Rect) → AreRects rects → IsFirstFrom rects (x * 2 ^ 32) r → r.x0 ≤ x → x ≤ z
    → z ≤ r.x1 → Has rects x y ↔ Has rects z y
alike_inside rects x z y r are f here le to =
    let at : InColumn rects x f.place = in_found rects x r are f here in
    let there : InColumn rects z f.place = (omega (arith, at.0, le), subst (λ (q : Rect). z ≤ q.x1) (sym f.is) to) in
    (moved rects f.place x z y are f.within at there, moved rects f.place z x y are f.within there at)
