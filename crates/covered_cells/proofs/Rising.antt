-- The first points of cells ascend.
use Rattle.std.proofs.Common.{◌≡◌, ℕ, zero, suc, ◌+◌, ◌-◌, ◌*◌, ◌^◌, ◌<◌, ◌≤◌, Bool, List, map, [], ◌∷◌, ◌++◌, length, get_or, filter, inl, inr, arith, add-one}
use Rattle.std.specs.List.{flat_map, range_with_len}
use Rattle.std.specs.List.Sorted.{IsStrictlyIncreasing}
use Rattle.std.proofs.lemmas.Bool.{cases_Bool, cases_lt}
use Rattle.std.proofs.lemmas.List.{map-append}
use Rattle.point_set.specs.declared.rect.Rect.{Rect}
use Rattle.grid.specs.Cuts.{AreCuts, Cuts, grid_of, span_count}
use Rattle.covered_cells.specs.declared.grid_cell.GridCell.{GridCell}
use Rattle.covered_cells.specs.Covered.{cell_at, cells_of, column_cells, is_covered}

-- ascending numbers from `low` on, below `high`
abbrev pub Within : ℕ → ℕ → List ℕ → Type 0
Within low high [] = low ≤ high
Within low high (n ∷ ns) = (low ≤ n) × Within (n + 1) high ns

lower : (a b high : ℕ) (ns : List ℕ) → a ≤ b → Within b high ns → Within a high ns
lower a b high [] le h = omega (arith, le, h)
lower a b high (n ∷ ns) le h = (omega (arith, le, h.0), h.1)

higher : (low a b : ℕ) (ns : List ℕ) → a ≤ b → Within low a ns → Within low b ns
higher low a b [] le h = omega (arith, le, h)
higher low a b (n ∷ ns) le h = (h.0, higher (n + 1) a b ns le h.1)

joined : (a b c : ℕ) (ms ns : List ℕ) → Within a b ms → Within b c ns → Within a c (ms ++ ns)
joined a b c [] ns h more = lower a b c ns h more
joined a b c (m ∷ ms) ns h more = (h.0, joined (m + 1) b c ms ns h.1 more)

increasing : (low high : ℕ) (ns : List ℕ) → Within low high ns → IsStrictlyIncreasing ns
increasing low high [] h k lt = absurd (omega arith)
increasing low high (n ∷ []) h k lt = absurd (omega arith)
increasing low high (n ∷ m ∷ ns) h zero lt = omega (arith, h.1.0)
increasing low high (n ∷ m ∷ ns) h (suc k) lt =
    rw (add-one (suc k)) (rw (add-one k) at (increasing (n + 1) high (m ∷ ns) h.1 k (omega arith)))

abbrev firsts : List GridCell → List ℕ
firsts cells = map (λ (c : GridCell). c.first) cells

rows_rise : (grid : Cuts) (k : ℕ) (p : ℕ → Bool) (a n : ℕ) → IsStrictlyIncreasing grid.ys → a + n < length grid.ys
    → Within (get_or grid.xs k 0 * 2 ^ 32 + get_or grid.ys a 0) (get_or grid.xs k 0 * 2 ^ 32 + get_or grid.ys (a + n) 0)
    (firsts (map (cell_at grid k) (filter p (range_with_len a n))))
rows_rise grid k p a zero up lt = let e : a + 0 ≡ a = omega arith in rw e (omega arith)
rows_rise grid k p a (suc n) up lt =
    let e : a + suc n ≡ a + 1 + n = omega arith in
    let more = rows_rise grid k p (a + 1) n up (omega (arith, lt)) in
    let rise : get_or grid.ys a 0 < get_or grid.ys (a + 1) 0 = up a (omega (arith, lt)) in
    elim (cases_Bool (p a)) [
      | inl listed ↦ rw (e, listed) (omega arith, lower _ _ _ _ (omega (arith, rise)) more)
      | inr missed ↦ rw (e, missed) (lower _ _ _ _ (omega (arith, rise)) more)
    ]

column_rises : (grid : Cuts) (k : ℕ) (p : ℕ → Bool) → AreCuts grid.ys
    → Within (get_or grid.xs k 0 * 2 ^ 32) ((get_or grid.xs k 0 + 1) * 2 ^ 32)
    (firsts (map (cell_at grid k) (filter p (range_with_len 0 (span_count grid.ys)))))
column_rises grid k p are = elim (cases_lt 0 (length grid.ys)) [
  | inl some ↦
      let rows = rows_rise grid k p 0 (length grid.ys - 1) are.0 (omega arith) in
      let last = are.1 (0 + (length grid.ys - 1)) 0 (omega arith) in
      higher _ _ _ _ (omega (arith, last)) (lower _ _ _ _ (omega arith) rows)
  | inr none ↦ let e : length grid.ys - 1 ≡ 0 = omega arith in rw e (omega arith)
]

columns_rise : (rects : List Rect) (grid : Cuts) (a n : ℕ) → AreCuts grid.xs → AreCuts grid.ys → a + n < length grid.xs
    → Within (get_or grid.xs a 0 * 2 ^ 32) (get_or grid.xs (a + n) 0 * 2 ^ 32)
    (firsts (flat_map (column_cells rects grid) (range_with_len a n)))
columns_rise rects grid a zero x_are y_are lt = let e : a + 0 ≡ a = omega arith in rw e (omega arith)
columns_rise rects grid a (suc n) x_are y_are lt =
    let e : a + suc n ≡ a + 1 + n = omega arith in
    let here = column_rises grid a (is_covered rects grid a) y_are in
    let more = columns_rise rects grid (a + 1) n x_are y_are (omega (arith, lt)) in
    let rise : get_or grid.xs a 0 < get_or grid.xs (a + 1) 0 = x_are.0 a (omega (arith, lt)) in
    rw (
      e,
      map-append (λ (c : GridCell). c.first) (column_cells rects grid a)
          (flat_map (column_cells rects grid) (range_with_len (a + 1) n)),
    )
    (joined _ _ _ _ _ here (lower _ _ _ _ (omega (arith, rise)) more))

pub firsts_rise : (rects : List Rect) → AreCuts (grid_of rects).xs → AreCuts (grid_of rects).ys
    → IsStrictlyIncreasing (map (λ (c : GridCell). c.first) (cells_of rects))
firsts_rise rects x_are y_are =
    elim (cases_lt 0 (length (grid_of rects).xs)) [
      | inl some ↦ increasing _ _ _ (columns_rise rects (grid_of rects) 0 (length (grid_of rects).xs - 1) x_are y_are (omega arith))
      | inr none ↦ let e : length (grid_of rects).xs - 1 ≡ 0 = omega arith in rw e (increasing 0 0 [] (omega arith))
    ]
