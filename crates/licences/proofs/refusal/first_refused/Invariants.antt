use Rattle.std.proofs.Common.{◌≡◌, drop}
use Rattle.licences.specs.Claims.{first_refused}
use Rattle.licences.proofs.refusal.first_refused.Given as goal

abbrev pub invariant-loop-one : goal.invariant-loop-one
invariant-loop-one g l = first_refused l.all l.own ≡ first_refused l.all (drop l.one-index l.own)
