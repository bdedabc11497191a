use Rattle.launch_claims.proofs.Reaching.{tasks_as_far}
use Rattle.launch_claims.proofs.reach.reach_of_other_tasks.Goals as goal

pub returns-else-reach-claim : goal.returns-else-reach-claim
returns-else-reach-claim c = λ seen h. tasks_as_far seen c.args.reach.now c.args.claim.now c.if-reach-claim.false h c.requires
