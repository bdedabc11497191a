-- Two sets of rectangles, column by column. `Q` tells of a column and a row what is asked of the second set, and `R` the same of a number.
use Rattle.std.proofs.Common.{◌≡◌, ◌↔◌, Some, None, ℕ, ◌+◌, ◌*◌, ◌<◌, ◌≤◌, ◌^◌, List, Contains, inl, inr, subst, arith}
use Rattle.std.proofs.lemmas.Bool.{cases_lt}
use Rattle.point_set.specs.Least.{IsLeast}
use Rattle.point_set.specs.declared.rect.Rect.{Rect}
use Rattle.point_set.specs.Rects.{AreRects, Has, HasColumn, rect_points}
use Rattle.point_set.proofs.lemmas.Columns.{of_has, to_has, has_at}
use Rattle.point_set.proofs.Numbers.{row_fits}

-- no column left of this one has what is looked for
abbrev pub IsFree : List Rect → (ℕ → ℕ → Type 0) → ℕ → Type 0
IsFree ours Q from = (z v : ℕ) → z < from → Has ours z v → Q z v → ⊥

-- what is asked of numbers is what is asked of columns and rows
abbrev pub Agree : (ℕ → ℕ → Type 0) → (ℕ → Type 0) → Type 0
Agree Q R = (x y : ℕ) → y < 2 ^ 32 → Q x y ↔ R (x * 2 ^ 32 + y)

pub free_more : (ours : List Rect) (Q : ℕ → ℕ → Type 0) (from column alike : ℕ) → IsFree ours Q from
    → IsLeast (λ z. HasColumn ours z × (from ≤ z)) (Some column) → IsLeast (λ v. Has ours column v × Q column v) None
    → ((z v : ℕ) → column ≤ z → z ≤ alike → Has ours column v ↔ Has ours z v) → ((z v : ℕ) → column ≤ z → z ≤ alike → Q z v → Q column v)
    → IsFree ours Q (alike + 1)
free_more ours Q from column alike free least none same also z v lt has asked = elim (cases_lt z from) [
  | inl before ↦ free z v before has asked
  | inr le ↦
      let at = least.1 z ((v, has), le) in
      none v ((same z v at (omega arith)).1 has, also z v at (omega arith) asked)
]

pub found : (ours : List Rect) (Q : ℕ → ℕ → Type 0) (R : ℕ → Type 0) (from column v : ℕ) → AreRects ours → Agree Q R → IsFree ours Q from
    → IsLeast (λ z. HasColumn ours z × (from ≤ z)) (Some column) → IsLeast (λ v. Has ours column v × Q column v) (Some v)
    → IsLeast (λ p. Contains (rect_points ours) p × R p) (Some (column * 2 ^ 32 + v))
found ours Q R from column v are agree free least row = (
  (of_has ours column v row.0.0, (agree column v (row_fits ours column v are row.0.0)).0 row.0.1),
  λ q h.
      let a = to_has ours q are.1 h.0 in
      let is = a.is in
      let fits = a.y_fits in
      let v_fits = row_fits ours column v are row.0.0 in
      let asked : Q a.x a.y = (agree a.x a.y fits).1 (subst R is h.1) in
      elim (cases_lt a.x from) [
        | inl before ↦ absurd (free a.x a.y before a.has asked)
        | inr le ↦ elim (cases_lt column a.x) [
          | inl right ↦ omega arith
          | inr ge ↦
              let at = least.1 a.x ((a.y, a.has), le) in
              let same : a.x ≡ column = omega arith in
              omega (arith, row.1 a.y (subst (λ z. Has ours z a.y) same a.has, subst (λ z. Q z a.y) same asked))
        ]
      ],
)

pub none_left : (ours : List Rect) (Q : ℕ → ℕ → Type 0) (R : ℕ → Type 0) (from : ℕ) → AreRects ours → Agree Q R → IsFree ours Q from
    → IsLeast (λ z. HasColumn ours z × (from ≤ z)) None → IsLeast (λ p. Contains (rect_points ours) p × R p) None
none_left ours Q R from are agree free least q h =
    let a = to_has ours q are.1 h.0 in
    let is = a.is in
    let asked : Q a.x a.y = (agree a.x a.y a.y_fits).1 (subst R is h.1) in
    elim (cases_lt a.x from) [
      | inl before ↦ free a.x a.y before a.has asked
      | inr le ↦ least a.x ((a.y, a.has), le)
    ]

pub none_at_end : (ours : List Rect) (Q : ℕ → ℕ → Type 0) (R : ℕ → Type 0) (from : ℕ) → AreRects ours → Agree Q R → IsFree ours Q from
    → 2 ^ 32 ≤ from → IsLeast (λ p. Contains (rect_points ours) p × R p) None
none_at_end ours Q R from are agree free far q h =
    let a = to_has ours q are.1 h.0 in
    let is = a.is in
    let x_fits = a.x_fits in
    free a.x a.y (omega arith) a.has ((agree a.x a.y a.y_fits).1 (subst R is h.1))

pub agree_in : (theirs : List Rect) → AreRects theirs → Agree (Has theirs) (Contains (rect_points theirs))
agree_in theirs are x y fits = (of_has theirs x y, has_at theirs x y are.1 fits)

pub agree_out : (theirs : List Rect) → AreRects theirs → Agree (λ x y. ¬ Has theirs x y) (λ p. ¬ Contains (rect_points theirs) p)
agree_out theirs are x y fits = (λ missed h. missed (has_at theirs x y are.1 fits h), λ missed h. missed (of_has theirs x y h))
