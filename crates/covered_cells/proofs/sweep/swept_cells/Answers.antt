use Rattle.std.proofs.Common.{sym, ◌∙◌, subst}
use Rattle.covered_cells.specs.Marks.{AreInRows, minus_marks, plus_marks}
use Rattle.covered_cells.proofs.Swept.{in_rows_still, sweep_more}
use Rattle.covered_cells.proofs.sweep.swept_cells.Goals as goal

pub loop-k-preserved : goal.loop-k-preserved
loop-k-preserved c =
    let inv = c.loop-k.invariant in
    let k = c.loop-k.k in
    let plus = c.advance-next_plus.ensures in
    let minus = c.advance-next_minus.ensures in
    record {
      plus = record { within = plus.within; before = plus.before; counted = plus.counted; length = plus.length ∙ inv.plus.length };
      minus = record { within = minus.within; before = minus.before; counted = minus.counted; length = minus.length ∙ inv.minus.length };
      cells = λ blocks are is_plus is_minus.
          sweep_more c.args.grid.now blocks k c.loop-k.cells.items c.push_column.new.cells.items (inv.cells blocks are is_plus is_minus)
          (c.in_ok-push_column.ensures blocks are (subst (AreInRows k (plus_marks blocks)) (sym c.as_slice.ensures.value)
          (in_rows_still k (plus_marks blocks) c.args.plus.now c.advance-next_plus.new.counts.items is_plus plus.in_rows))
          (subst (AreInRows k (minus_marks blocks)) (sym c.as_slice-in-loop-k.ensures.value)
          (in_rows_still k (minus_marks blocks) c.args.minus.now c.advance-next_minus.new.counts.items is_minus minus.in_rows)));
    }
