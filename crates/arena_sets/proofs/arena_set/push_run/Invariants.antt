use Rattle.std.proofs.Common.{◌≡◌, ◌++◌, ◌-◌, ◌<◌}
use Rattle.std.specs.List.{range_with_len}
use Rattle.arena_sets.proofs.arena_set.push_run.Given as goal

abbrev pub invariant-loop-p : goal.invariant-loop-p
invariant-loop-p l = (l.points.items ≡ l.fn.points.items ++ range_with_len l.first (l.p - l.first)) × (l.last < l.first → l.p ≡ l.first)
