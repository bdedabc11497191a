use Rattle.std.proofs.Common.{◌+◌, ◌++◌, [], ◌∷◌, List, get_or, nat_lt, cond, ap, sym, ◌∙◌, arith, append_assoc}
use Rattle.covered_cells.specs.declared.grid_cell.GridCell.{GridCell}
use Rattle.covered_cells.specs.Covered.{cell_at}
use Rattle.covered_cells.specs.Marks.{cells_below, plus_marks, minus_marks}
use Rattle.covered_cells.proofs.Corners.{count_more, below_is, some_block, cells_more}
use Rattle.covered_cells.proofs.sweep.push_column.Goals as goal

pub loop-l-preserved : goal.loop-l-preserved
loop-l-preserved c =
    let inv = c.loop-l.invariant in
    let l = c.loop-l.l in
    let k = c.args.k in
    let grid = c.args.grid.now in
    let within = c.loop-l-test.true in
    let same = c.requires.minus in
    let all = c.loop-l.all + get_or c.args.plus.now c.loop-l.l 0 in
    let off = c.loop-l.off + get_or c.args.minus.now c.loop-l.l 0 in
    record {
      all_fits = omega (arith, inv.all_fits);
      off_fits = omega (arith, inv.off_fits);
      sums = λ blocks are for against.
          let h = inv.sums blocks are for against in
          let a = count_more (plus_marks blocks) k l in
          let b = count_more (minus_marks blocks) k l in
          record {
            for = omega (arith, h.for, for l within, a);
            against = omega (arith, h.against, against l (omega (arith, within, same)), b);
            covered = c.in_ok-push_if.ensures ∙ ap
                (λ (xs : List GridCell). xs ++ cond (nat_lt off all) (cell_at grid k l ∷ []) []) h.covered
                ∙ append_assoc c.args.cells.now.items (cells_below grid blocks k l) (cond (nat_lt off all) (cell_at grid k l ∷ []) [])
                ∙ ap (λ (xs : List GridCell). c.args.cells.now.items ++ xs) (sym (cells_more grid blocks k l (nat_lt off all)
                (some_block blocks k l all off are (omega (arith, h.for, for l within, a, below_is (plus_marks blocks) k l))
                (omega (arith, h.against, against l (omega (arith, within, same)), b, below_is (minus_marks blocks) k l)))));
          };
    }
