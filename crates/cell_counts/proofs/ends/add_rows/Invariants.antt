use Rattle.std.proofs.Common.{◌≡◌, ◌++◌, take}
use Rattle.grid.specs.Cuts.{cuts, y_ends}
use Rattle.cell_counts.proofs.ends.add_rows.Given as goal

abbrev pub invariant-loop-k : goal.invariant-loop-k
invariant-loop-k l = cuts l.ends.keys ≡ cuts (l.fn.ends.keys ++ y_ends (take l.k l.rects))
