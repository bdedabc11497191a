use Rattle.std.proofs.Common.{◌≡◌, ◌++◌, take}
use Rattle.grid.specs.Cuts.{cuts, x_ends}
use Rattle.cell_counts.proofs.ends.add_columns.Given as goal

abbrev pub invariant-loop-k : goal.invariant-loop-k
invariant-loop-k l = cuts l.ends.keys ≡ cuts (l.fn.ends.keys ++ x_ends (take l.k l.rects))
