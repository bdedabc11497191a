use Rattle.std.proofs.Common.{◌≡◌, false, take}
use Rattle.std.specs.List.{list_any}
use Rattle.licences.specs.Claims.{conflict}
use Rattle.group_pairs.proofs.clashes.conflicts_with.Given as goal

abbrev pub invariant-loop-k : goal.invariant-loop-k
invariant-loop-k g l = list_any (conflict l.one.0.now) (take l.k l.claims) ≡ false
