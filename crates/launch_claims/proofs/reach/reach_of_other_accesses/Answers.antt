use Rattle.std.proofs.Common.{sym, ◌∙◌}
use Rattle.launch_claims.proofs.Reaching.{accesses_as_far}
use Rattle.launch_claims.proofs.reach.reach_of_other_accesses.Goals as goal

pub returns-then-agree : goal.returns-then-agree
returns-then-agree c = λ seen h. accesses_as_far seen c.args.reach.now c.args.claim.now (sym c.agree.ensures ∙ c.if-agree.true) h c.requires
