-- Cells of a grid, by their columns and rows, and by their numbers.
use Rattle.std.proofs.Common.{◌≡◌, ℕ, ◌+◌, ◌*◌, ◌<◌, ◌≤◌, sym, ap, ◌∙◌, inl, inr, arith}
use Rattle.std.proofs.lemmas.Bool.{cases_order}
use Rattle.std.proofs.lemmas.Nat.{mul-le}
use Rattle.grid.specs.Cuts.{Cuts, span_count}
use Rattle.cell_bits.specs.Bits.{IsInCell}

-- A row before the last one of a column has a smaller number than each of a later column.
pub before : (rows k l m : ℕ) → l < rows → k < m → k * rows + l < m * rows
before rows k l m lt order = let le : (k + 1) * rows ≤ m * rows = mul-le (k + 1) rows m rows (omega arith) (omega arith) in
    let e : (k + 1) * rows ≡ k * rows + rows = omega arith in
    omega (arith, le, e, lt)

-- One number is that of one column and row.
pub same_cell : (rows k l m o : ℕ) → l < rows → o < rows → k * rows + l ≡ m * rows + o → (k ≡ m) × (l ≡ o)
same_cell rows k l m o lt also e = elim (cases_order k m) [
  | inl same ↦ (same, (let z : k * rows ≡ m * rows = ap (λ n. n * rows) same in omega (arith, z, e)))
  | inr (inl less) ↦ absurd (let b = before rows k l m lt less in omega (arith, b, e))
  | inr (inr more) ↦ absurd (let b = before rows m o k also more in omega (arith, b, e))
]

-- Points in the cell of one number are in one column and one row.
pub share_cell : (grid : Cuts) (n p q : ℕ) (a : IsInCell grid n p) (b : IsInCell grid n q) → (b.k ≡ a.k) × (b.l ≡ a.l)
share_cell grid n p q a b =
    let row = a.row.0 in
    let its = b.row.0 in
    same_cell (span_count grid.ys) b.k b.l a.k a.l (omega (arith, its)) (omega (arith, row)) (sym b.number ∙ a.number)
