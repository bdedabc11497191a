-- Points of rectangles as numbers, from what is known of columns and rows.
use Rattle.std.proofs.Common.{◌≡◌, ◌↔◌, Some, None, Option, ℕ, zero, suc, ◌+◌, ◌-◌, ◌*◌, ◌/◌, ◌%◌, ◌<◌, ◌≤◌, ◌^◌, ◌⊎◌, List, [], ◌∷◌, Contains, length, inl, inr, sym, subst, arith}
use Rattle.std.proofs.lemmas.Bool.{cases_lt}
use Rattle.std.proofs.lemmas.Nat.{shr_split}
use Rattle.point_set.specs.Least.{IsLeast, IsGreatestOf, IsLeastFrom, IsLeastGap}
use Rattle.point_set.specs.declared.rect.Rect.{Rect}
use Rattle.point_set.specs.Rects.{AreRects, ComesBefore, Holds, Has, HasColumn, rect_points, rect_at}
use Rattle.point_set.proofs.lemmas.Bands.{x_fits, y_fits, wide, high as tall, comes_before}
use Rattle.point_set.proofs.lemmas.Columns.{of_has, to_has, has_at}

-- where a row lies
pub row_fits : (rects : List Rect) (x y : ℕ) → AreRects rects → Has rects x y → y < 2 ^ 32
row_fits rects x y are h = let top = h.holds.high in omega (arith, y_fits rects h.place are.1 h.within)

-- ---- The next point.

-- the next row of the same column
pub next_in_row : (rects : List Rect) (x y v : ℕ) → AreRects rects → y < 2 ^ 32 → IsLeast (λ v. Has rects x v × (y ≤ v)) (Some v)
    → IsLeastFrom (rect_points rects) (x * 2 ^ 32 + y) (Some (x * 2 ^ 32 + v))
next_in_row rects x y v are fits least = (
  (of_has rects x v least.0.0, omega (arith, least.0.1)),
  λ q h.
      let a = to_has rects q are.1 h.0 in
      let is = a.is in
      let a_fits = a.y_fits in
      let v_fits = row_fits rects x v are least.0.0 in
      elim (cases_lt x a.x) [
        | inl right ↦ omega (arith, h.1)
        | inr le ↦
            let same : a.x ≡ x = omega (arith, h.1) in
            let up : y ≤ a.y = omega (arith, h.1) in
            omega (arith, least.1 a.y (subst (λ z. Has rects z a.y) same a.has, up))
      ],
)

-- none in this column, and so the next one right of it
right_of : (rects : List Rect) (x y q : ℕ) → AreRects rects → y < 2 ^ 32 → IsLeast (λ v. Has rects x v × (y ≤ v)) None
    → Contains (rect_points rects) q → x * 2 ^ 32 + y ≤ q → (x + 1) * 2 ^ 32 ≤ q
right_of rects x y q are fits bare h le =
    let a = to_has rects q are.1 h in
    let is = a.is in
    let a_fits = a.y_fits in
    elim (cases_lt x a.x) [
      | inl right ↦ omega arith
      | inr left ↦
          let same : a.x ≡ x = omega arith in
          let up : y ≤ a.y = omega arith in
          absurd (bare a.y (subst (λ z. Has rects z a.y) same a.has, up))
    ]

pub next_behind : (rects : List Rect) (x y : ℕ) (o : Option ℕ) → AreRects rects → y < 2 ^ 32 → IsLeast (λ v. Has rects x v × (y ≤ v)) None
    → IsLeastFrom (rect_points rects) ((x + 1) * 2 ^ 32) o → IsLeastFrom (rect_points rects) (x * 2 ^ 32 + y) o
next_behind rects x y (Some p) are fits bare least =
    ((least.0.0, omega (arith, least.0.1, fits)), λ q h. least.1 q (h.0, right_of rects x y q are fits bare h.0 h.1))
next_behind rects x y None are fits bare least = λ q h. least q (h.0, right_of rects x y q are fits bare h.0 h.1)

-- the first point of the next column
pub column_first : (rects : List Rect) (from x v : ℕ) → AreRects rects → IsLeast (λ z. HasColumn rects z × (from ≤ z)) (Some x)
    → IsLeast (λ v. Has rects x v × (0 ≤ v)) (Some v) → IsLeastFrom (rect_points rects) (from * 2 ^ 32) (Some (x * 2 ^ 32 + v))
column_first rects from x v are column row = (
  (of_has rects x v row.0.0, omega (arith, column.0.1)),
  λ q h.
      let a = to_has rects q are.1 h.0 in
      let is = a.is in
      let a_fits = a.y_fits in
      let v_fits = row_fits rects x v are row.0.0 in
      let beyond : from ≤ a.x = omega (arith, h.1) in
      let le = column.1 a.x ((a.y, a.has), beyond) in
      elim (cases_lt x a.x) [
        | inl right ↦ omega arith
        | inr ge ↦
            let same : a.x ≡ x = omega arith in
            omega (arith, row.1 a.y (subst (λ z. Has rects z a.y) same a.has, omega arith))
      ],
)

pub column_bare : (rects : List Rect) (from : ℕ) → AreRects rects → IsLeast (λ z. HasColumn rects z × (from ≤ z)) None
    → IsLeastFrom (rect_points rects) (from * 2 ^ 32) None
column_bare rects from are bare q h =
    let a = to_has rects q are.1 h.0 in
    let is = a.is in
    let a_fits = a.y_fits in
    let beyond : from ≤ a.x = omega (arith, h.1) in
    bare a.x ((a.y, a.has), beyond)

pub none_right : (rects : List Rect) (from : ℕ) → AreRects rects → 2 ^ 32 ≤ from → IsLeastFrom (rect_points rects) (from * 2 ^ 32) None
none_right rects from are far q h =
    let a = to_has rects q are.1 h.0 in
    let is = a.is in
    let a_fits = a.y_fits in
    let x_fits' = a.x_fits in
    omega (arith, h.1)

-- ---- Gaps.

-- a gap in the same column
pub gap_in_row : (rects : List Rect) (x y v : ℕ) → AreRects rects → x < 2 ^ 32
    → IsLeast (λ v. ¬ Has rects x v × (y ≤ v) × (v < 2 ^ 32)) (Some v)
    → IsLeastGap (rect_points rects) (x * 2 ^ 32 + y) (Some (x * 2 ^ 32 + v))
gap_in_row rects x y v are x_fits least = (
  (λ h. least.0.0 (has_at rects x v are.1 least.0.2 h), omega (arith, least.0.1), omega (arith, least.0.2)),
  λ q h. elim (cases_lt q (x * 2 ^ 32 + v)) [
    | inl lt ↦
        let w = q - x * 2 ^ 32 in
        let is : x * 2 ^ 32 + (q - x * 2 ^ 32) ≡ q = omega (arith, h.1) in
        absurd (omega (
          arith,
          lt,
          h.1,
          least.1 (q - x * 2 ^ 32) (
            (λ has. h.0 (subst (Contains (rect_points rects)) is (of_has rects x (q - x * 2 ^ 32) has))),
            omega (arith, h.1),
            omega (arith, lt, least.0.2),
          ),
        ))
    | inr ge ↦ ge
  ],
)

-- whether a point is in some rectangle
holds_or_not : (r : Rect) (x y : ℕ) → Holds r x y ⊎ (Holds r x y → ⊥)
holds_or_not r x y = elim (cases_lt x r.x0) [
  | inl lt ↦ inr (λ h. let left = h.left in omega arith)
  | inr left ↦ elim (cases_lt r.x1 x) [
    | inl lt ↦ inr (λ h. let right = h.right in omega arith)
    | inr right ↦ elim (cases_lt y r.y0) [
      | inl lt ↦ inr (λ h. let low = h.low in omega arith)
      | inr low ↦ elim (cases_lt r.y1 y) [
        | inl lt ↦ inr (λ h. let top = h.high in omega arith)
        | inr top ↦ inl (record { left = left; right = right; low = low; high = top })
      ]
    ]
  ]
]

has_behind : (r : Rect) (rs : List Rect) (x y : ℕ) → Has rs x y → Has (r ∷ rs) x y
has_behind r rs x y h = record { place = suc h.place; within = omega (arith, h.within); holds = h.holds }

has_cases : (r : Rect) (rs : List Rect) (x y k : ℕ) → k < length (r ∷ rs) → Holds (rect_at (r ∷ rs) k) x y → Holds r x y ⊎ Has rs x y
has_cases r rs x y zero lt h = inl h
has_cases r rs x y (suc k) lt h = inr (record { place = k; within = omega arith; holds = h })

pub has_or_not : (rects : List Rect) (x y : ℕ) → Has rects x y ⊎ (Has rects x y → ⊥)
has_or_not [] x y = inr (λ h. omega (arith, h.within))
has_or_not (r ∷ rs) x y = elim (holds_or_not r x y) [
  | inl here ↦ inl (record { place = 0; within = omega arith; holds = here })
  | inr missed ↦ elim (has_or_not rs x y) [
    | inl behind ↦ inl (has_behind r rs x y behind)
    | inr none ↦ inr (λ h. elim (has_cases r rs x y h.place h.within h.holds) [ inl here ↦ missed here | inr behind ↦ none behind ])
  ]
]

-- a column is full from a row on
pub full_from : (rects : List Rect) (x y : ℕ) → IsLeast (λ v. ¬ Has rects x v × (y ≤ v) × (v < 2 ^ 32)) None → (v : ℕ) → y ≤ v → v < 2 ^ 32
    → Has rects x v
full_from rects x y none v le fits = elim (has_or_not rects x v) [ inl has ↦ has | inr missed ↦ absurd (none v (missed, le, fits)) ]

-- columns right of x up to this one are full
abbrev pub FullUpTo : List Rect → ℕ → ℕ → Type 0
FullUpTo rects x full = (z v : ℕ) → x < z → z ≤ full → v < 2 ^ 32 → Has rects z v

in_full : (rects : List Rect) (x full q : ℕ) → FullUpTo rects x full → (x + 1) * 2 ^ 32 ≤ q → q < (full + 1) * 2 ^ 32 → (z v : ℕ)
    → q ≡ z * 2 ^ 32 + v → v < 2 ^ 32 → Contains (rect_points rects) q
in_full rects x full q is_full from to z v is fits =
    subst (Contains (rect_points rects)) (sym is) (of_has rects z v (is_full z v (omega arith) (omega arith) fits))

-- the column and the row of a number
pub split : (q : ℕ) → (z : ℕ) × (v : ℕ) × (q ≡ z * 2 ^ 32 + v) × (v < 2 ^ 32)
split q = (q / 2 ^ 32, q % 2 ^ 32, sym (shr_split q 32), omega arith)

pub gap_behind : (rects : List Rect) (x full v : ℕ) → AreRects rects → x ≤ full → full + 1 < 2 ^ 32 → FullUpTo rects x full
    → IsLeast (λ v. ¬ Has rects (full + 1) v × (0 ≤ v) × (v < 2 ^ 32)) (Some v)
    → IsLeastGap (rect_points rects) ((x + 1) * 2 ^ 32) (Some ((full + 1) * 2 ^ 32 + v))
gap_behind rects x full v are le fits is_full least =
    let here = gap_in_row rects (full + 1) 0 v are fits least in (
      (here.0.0, omega arith, here.0.2),
      λ q h. elim (cases_lt q ((full + 1) * 2 ^ 32)) [
        | inl lt ↦ let s = split q in absurd (h.0 (in_full rects x full q is_full h.1 lt s.0 s.1 s.2 s.3))
        | inr ge ↦ here.1 q (h.0, omega (arith, ge), h.2)
      ],
    )

pub no_gap_behind : (rects : List Rect) (x full : ℕ) → 2 ^ 32 ≤ full + 1 → FullUpTo rects x full
    → IsLeastGap (rect_points rects) ((x + 1) * 2 ^ 32) None
no_gap_behind rects x full far is_full q h = let s = split q in
    h.0 (in_full rects x full q is_full h.1 (omega (arith, h.2)) s.0 s.1 s.2 s.3)

past_column : (rects : List Rect) (x y q : ℕ) → ((v : ℕ) → y ≤ v → v < 2 ^ 32 → Has rects x v) → (Contains (rect_points rects) q → ⊥)
    → x * 2 ^ 32 + y ≤ q → (x + 1) * 2 ^ 32 ≤ q
past_column rects x y q full missed le = elim (cases_lt q ((x + 1) * 2 ^ 32)) [
  | inl lt ↦
      let is : x * 2 ^ 32 + (q - x * 2 ^ 32) ≡ q = omega arith in
      absurd (missed (subst (Contains (rect_points rects)) is
      (of_has rects x (q - x * 2 ^ 32) (full (q - x * 2 ^ 32) (omega arith) (omega arith)))))
  | inr ge ↦ ge
]

pub gap_after_column : (rects : List Rect) (x y : ℕ) (o : Option ℕ) → y < 2 ^ 32 → ((v : ℕ) → y ≤ v → v < 2 ^ 32 → Has rects x v)
    → IsLeastGap (rect_points rects) ((x + 1) * 2 ^ 32) o → IsLeastGap (rect_points rects) (x * 2 ^ 32 + y) o
gap_after_column rects x y (Some p) fits full least =
    ((least.0.0, omega (arith, least.0.1, fits), least.0.2), λ q h. least.1 q (h.0, past_column rects x y q full h.0 h.1, h.2))
gap_after_column rects x y None fits full none = λ q h. none q (h.0, past_column rects x y q full h.0 h.1, h.2)

-- ---- One point, and the greatest.

pub has_here : (rects : List Rect) (x y v p : ℕ) → AreRects rects → y < 2 ^ 32 → p ≡ x * 2 ^ 32 + y
    → IsLeast (λ v. Has rects x v × (y ≤ v)) (Some v) → (v ≡ y) ↔ Contains (rect_points rects) p
has_here rects x y v p are fits is least = (
  λ same. subst (Contains (rect_points rects)) (sym is) (of_has rects x y (subst (Has rects x) same least.0.0)),
  λ h.
      let le = least.1 y (has_at rects x y are.1 fits (subst (Contains (rect_points rects)) is h), omega arith) in
      omega (arith, least.0.1),
)

pub has_none : (rects : List Rect) (x y p : ℕ) → AreRects rects → y < 2 ^ 32 → p ≡ x * 2 ^ 32 + y
    → IsLeast (λ v. Has rects x v × (y ≤ v)) None → Contains (rect_points rects) p → ⊥
has_none rects x y p are fits is least h = least y (has_at rects x y are.1 fits (subst (Contains (rect_points rects)) is h), omega arith)

last_above : (r s : Rect) (x y : ℕ) → s.x0 ≤ s.x1 → s.y0 ≤ s.y1 → y < 2 ^ 32 → Holds r x y → ComesBefore r s
    → x * 2 ^ 32 + y ≤ s.x1 * 2 ^ 32 + s.y1
last_above r s x y broad thick fits h (inl right) = let to = h.right in omega arith
last_above r s x y broad thick fits h (inr above) = let to = h.right in let top = h.high in omega (arith, above.1, above.2)

pub greatest : (rects : List Rect) (end : ℕ) → AreRects rects → end < length rects → length rects ≤ end + 1
    → IsGreatestOf (rect_points rects) (Some ((rect_at rects end).x1 * 2 ^ 32 + (rect_at rects end).y1))
greatest rects end are within last =
    let broad = wide rects end are.0 within in
    let thick = tall rects end are.0 within in (
      of_has rects (rect_at rects end).x1 (rect_at rects end).y1
          (record { place = end; within = within; holds = record { left = broad; right = omega arith; low = thick; high = omega arith } }),
      λ q h.
          let a = to_has rects q are.1 h in
          let is = a.is in
          let here = a.has.within in
          let right = a.has.holds.right in
          let top = a.has.holds.high in
          elim (cases_lt a.has.place end) [
            | inl lt ↦ omega (
              arith,
              last_above (rect_at rects a.has.place) (rect_at rects end) a.x a.y broad thick a.y_fits a.has.holds
                  (comes_before rects a.has.place end are.0 lt within),
            )
            | inr ge ↦
                let e : a.has.place ≡ end = omega arith in
                subst (λ i. q ≤ (rect_at rects i).x1 * 2 ^ 32 + (rect_at rects i).y1) e (omega arith)
          ],
    )
