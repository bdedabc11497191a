use Rattle.std.proofs.Common.{◌≡◌, false, take}
use Rattle.group_pairs.specs.Sides.{clash}
use Rattle.group_pairs.proofs.clashes.clash.Given as goal

abbrev pub invariant-loop-k : goal.invariant-loop-k
invariant-loop-k g l = clash (take l.k l.ours) l.theirs ≡ false
