use Rattle.std.proofs.Common.{◌≡◌, List}
use Rattle.std.specs.List.Sorted.{IsPermutation}
use Rattle.grid.specs.Cuts.{span_count}
use Rattle.covered_cells.specs.declared.blocks.Block.{Block}
use Rattle.covered_cells.specs.Marks.{AreBlocks, cells_before, minus_marks, plus_marks}
use Rattle.covered_cells.proofs.Swept.{IsUpTo}
use Rattle.covered_cells.proofs.sweep.swept_cells.Given as goal

abbrev pub invariant-loop-k : goal.invariant-loop-k
invariant-loop-k l = record {
  plus : IsUpTo l.plus l.next_plus l.k l.plus_counts.items (span_count l.grid.ys);
  minus : IsUpTo l.minus l.next_minus l.k l.minus_counts.items (span_count l.grid.ys);
  cells : (blocks : List Block) → AreBlocks blocks → IsPermutation (plus_marks blocks) l.plus → IsPermutation (minus_marks blocks) l.minus
      → l.cells.items ≡ cells_before l.grid blocks l.k;
}
