use Rattle.std.proofs.Common.{ℕ, ◌-◌, ◌≤◌}
use Rattle.launch_claims.specs.Blocks.{HasClashUpTo}
use Rattle.launch_claims.proofs.first_block.first_up_to.Given as goal

abbrev pub invariant-loop-low : goal.invariant-loop-low
invariant-loop-low l = record {
  order : l.low ≤ l.high;
  clash : HasClashUpTo l.blocks l.high;
  least : (m : ℕ) → HasClashUpTo l.blocks m → l.low ≤ m;
}

abbrev pub decreases-loop-low : goal.decreases-loop-low
decreases-loop-low l = l.high - l.low
