use Rattle.std.proofs.Common.{List, map, sym, subst}
use Rattle.std.specs.List.Sorted.{IsPermutation, IsStrictlyIncreasing}
use Rattle.covered_cells.specs.declared.grid_cell.GridCell.{GridCell}
use Rattle.covered_cells.specs.Marks.{minus_marks, plus_marks}
use Rattle.covered_cells.proofs.Bounded.{blocks_begin, cuts_of_small, same_list}
use Rattle.covered_cells.proofs.Rising.{firsts_rise}
use Rattle.covered_cells.proofs.covered.covered_cells.Goals as goal

pub returns : goal.returns
returns c =
    let rects = c.args.rects.now in
    let grid = c.args.grid.now in
    let marks = c.in_ok-marks.ensures.marks in
    let are = blocks_begin rects grid marks.made c.requires.grid marks.are in
    let plus = subst (IsPermutation (plus_marks marks.made)) (sym c.as_slice.ensures.value) marks.plus in
    let minus = subst (IsPermutation (minus_marks marks.made)) (sym c.as_slice-2.ensures.value) marks.minus in
    let is = same_list rects grid marks.made c.in_ok-cells.cells.items c.requires.grid marks.are
    (c.in_ok-cells.ensures marks.made are plus minus) in
    let cuts = cuts_of_small rects c.in_ok-marks.ensures.small in
    record {
      cells = is;
      ascend = subst (λ (cells : List GridCell). IsStrictlyIncreasing (map (λ (c : GridCell). c.first) cells)) (sym is)
          (firsts_rise rects cuts.0 cuts.1);
    }
