use Rattle.std.proofs.Common.{◌+◌, take}
use Rattle.launch_claims.specs.Claims.{HasClash, asked_below}
use Rattle.launch_claims.specs.Reaches.{MeasuresSoFar}
use Rattle.launch_claims.proofs.pass.has_clash_up_to.Given as goal

abbrev pub invariant-loop-claim : goal.invariant-loop-claim
invariant-loop-claim l = record {
  reach : MeasuresSoFar l.reach (asked_below (l.number + 1) (take l.claim-index l.claims));
  none : ¬ HasClash (asked_below (l.number + 1) (take l.claim-index l.claims));
}
