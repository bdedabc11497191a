use Rattle.std.proofs.Common.{◌≡◌, ◌*◌, ◌++◌, ◌^◌, ◌≤◌, ℕ, List}
use Rattle.grid.specs.Cuts.{Cuts}
use Rattle.covered_cells.specs.declared.blocks.Block.{Block}
use Rattle.covered_cells.specs.declared.grid_cell.GridCell.{GridCell}
use Rattle.covered_cells.specs.Marks.{AreBlocks, AreInRows, count_before, cells_below, minus_marks, plus_marks}
use Rattle.covered_cells.proofs.sweep.push_column.Given as goal

-- what is known of sums that count the marks of blocks
pub record Sums (grid : Cuts) (blocks : List Block) (k l all off : ℕ) (old cells : List GridCell) : Type 0 where
  pub for : all ≡ count_before k l (plus_marks blocks)
  pub against : off ≡ count_before k l (minus_marks blocks)
  pub covered : cells ≡ old ++ cells_below grid blocks k l

abbrev pub invariant-loop-l : goal.invariant-loop-l
invariant-loop-l l = record {
  all_fits : l.all ≤ l.l * 2 ^ 64;
  off_fits : l.off ≤ l.l * 2 ^ 64;
  sums : (blocks : List Block) → AreBlocks blocks → AreInRows l.k (plus_marks blocks) l.plus → AreInRows l.k (minus_marks blocks) l.minus
      → Sums l.grid blocks l.k l.l l.all l.off l.fn.cells.items l.cells.items;
}
