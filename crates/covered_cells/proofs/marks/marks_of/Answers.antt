use Rattle.covered_cells.proofs.Marked.{marks_sorted}
use Rattle.covered_cells.proofs.marks.marks_of.Goals as goal

pub returns-clause-marks : goal.returns-clause-marks
returns-clause-marks c =
    marks_sorted c.args.grid.now c.args.rects.now _ _ _ _ c.in_ok-marks.ensures.marks
    c.sort_by_column.ensures.permutation c.sort_by_column-2.ensures.permutation
