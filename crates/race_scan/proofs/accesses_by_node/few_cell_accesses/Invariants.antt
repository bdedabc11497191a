use Rattle.std.proofs.Common.{◌≡◌}
use Rattle.race_scan.specs.Gathered.{cell_accesses_before}
use Rattle.race_scan.proofs.accesses_by_node.few_cell_accesses.Given as goal

abbrev pub invariant-loop-place : goal.invariant-loop-place
invariant-loop-place g l = l.cell_accesses.items ≡ cell_accesses_before l.log l.order l.place
