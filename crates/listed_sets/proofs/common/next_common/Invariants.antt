use Rattle.std.proofs.Common.{ℕ, ◌-◌, ◌^◌, ◌≤◌, Contains}
use Rattle.listed_sets.proofs.common.next_common.Given as goal

-- No common point is below `from`.
abbrev pub invariant-loop-theirs : goal.invariant-loop-theirs
invariant-loop-theirs g l = record {
  least : (q : ℕ) → Contains (g.P.PointSet.points l.set) q → Contains l.listed q → l.low ≤ q → l.from ≤ q;
  low : l.low ≤ l.from;
}

abbrev pub decreases-loop-theirs : goal.decreases-loop-theirs
decreases-loop-theirs g l = 2 ^ 64 - l.from
