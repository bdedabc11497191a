use Rattle.std.proofs.Common.{◌+◌, ◌≤◌, length}
use Rattle.arena_sets.proofs.joined_rects.joined_count.Given as goal

abbrev pub invariant-loop-behind : goal.invariant-loop-behind
invariant-loop-behind l = l.count + length l.rest ≤ length l.rects

abbrev pub decreases-loop-behind : goal.decreases-loop-behind
decreases-loop-behind l = length l.rest
