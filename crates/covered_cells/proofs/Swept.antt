-- Marks counted column by column.
use Rattle.std.proofs.Common.{◌≡◌, ℕ, ◌+◌, ◌≤◌, Bool, List, [], ◌∷◌, ◌++◌, length, refl, sym, ap, ◌∙◌, arith}
use Rattle.std.specs.List.{flat_map, range_with_len, sum_by}
use Rattle.std.specs.List.Sorted.{IsPermutation}
use Rattle.std.proofs.lemmas.List.{flat_map_more}
use Rattle.std.proofs.lemmas.List.Sums.{sum_by-cons}
use Rattle.std.proofs.lemmas.List.Sorted.{sum_by-IsPermutation}
use Rattle.grid.specs.Cuts.{Cuts, span_count}
use Rattle.covered_cells.specs.declared.blocks.Block.{Block}
use Rattle.covered_cells.specs.declared.grid_cell.GridCell.{GridCell}
use Rattle.covered_cells.specs.declared.marks.Mark.{Mark}
use Rattle.covered_cells.specs.Marks.{AreCounted, AreInRows, StandBefore, cells_before, cells_below, is_in_row, one_if, times}
use Rattle.covered_cells.proofs.Corners.{range_more}

-- the marks before a place are counted, in each row, and they stand in columns before this one
pub record IsUpTo (marks : List Mark) (next k : ℕ) (counts : List ℕ) (rows : ℕ) : Type 0 where
  pub within : next ≤ length marks
  pub before : StandBefore marks next k
  pub counted : AreCounted marks next counts
  pub length : length counts ≡ rows

-- counts do not go by the order
times_sum : {X : Type 0} (p : X → Bool) (xs : List X) → times p xs ≡ sum_by (λ x. one_if (p x)) xs
times_sum p [] = refl
times_sum p (x ∷ xs) = ap (λ n. one_if (p x) + n) (times_sum p xs) ∙ sym (sum_by-cons (λ y. one_if (p y)) x xs)

pub times-permutation : {X : Type 0} (p : X → Bool) (xs ys : List X) → IsPermutation xs ys → times p ys ≡ times p xs
times-permutation p xs ys same = times_sum p ys ∙ sum_by-IsPermutation (λ x. one_if (p x)) xs ys same ∙ sym (times_sum p xs)

pub in_rows_still : (k : ℕ) (xs ys : List Mark) (counts : List ℕ) → IsPermutation xs ys → AreInRows k ys counts → AreInRows k xs counts
in_rows_still k xs ys counts same counted l lt = counted l lt ∙ times-permutation (is_in_row k l) xs ys same

-- one column more
pub column_more : (grid : Cuts) (blocks : List Block) (k : ℕ)
    → cells_before grid blocks (k + 1) ≡ cells_before grid blocks k ++ cells_below grid blocks k (span_count grid.ys)
column_more grid blocks k =
    let f = λ (j : ℕ). cells_below grid blocks j (span_count grid.ys) in
    let e : 0 + k ≡ k = omega arith in
    ap (flat_map f) (range_more 0 k) ∙ sym (flat_map_more f [] (range_with_len 0 k) (0 + k)) ∙ rw e refl

pub sweep_more : (grid : Cuts) (blocks : List Block) (k : ℕ) (old cells : List GridCell) → old ≡ cells_before grid blocks k
    → cells ≡ old ++ cells_below grid blocks k (span_count grid.ys) → cells ≡ cells_before grid blocks (k + 1)
sweep_more grid blocks k old cells before more =
    more ∙ ap (λ xs. xs ++ cells_below grid blocks k (span_count grid.ys)) before ∙ sym (column_more grid blocks k)
