use Rattle.std.proofs.Common.{◌≡◌, take}
use Rattle.log_limits.specs.Sums.{cut}
use Rattle.log_rules.specs.Loads.{load_in, row_load}
use Rattle.log_rules.proofs.load.Loads.at_point.Given as goal

abbrev pub invariant-loop-field : goal.invariant-loop-field
invariant-loop-field l = l.load ≡ cut (row_load (load_in l.self) l.tree (take l.field-index l.fields) l.point)
