use Rattle.std.proofs.Common.{◌≡◌, false, take}
use Rattle.licences.specs.Reach.{allows_at}
use Rattle.licences.proofs.refusal.first_reach.Given as goal

abbrev pub invariant-loop-k : goal.invariant-loop-k
invariant-loop-k g l = allows_at (take l.k l.all) l.asked l.field l.from ≡ false
