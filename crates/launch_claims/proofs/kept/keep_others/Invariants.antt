use Rattle.std.proofs.Common.{drop}
use Rattle.launch_claims.proofs.Keeping.{StillStandFor}
use Rattle.launch_claims.proofs.kept.keep_others.Given as goal

abbrev pub invariant-loop-other : goal.invariant-loop-other
invariant-loop-other l = StillStandFor l.fn.more.items l.kept l.block l.more.items (drop l.other-index l.kept)
