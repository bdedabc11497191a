use Rattle.launch_claims.proofs.Reaching.{longer_reaches}
use Rattle.launch_claims.proofs.reach.with_longer.Goals as goal

pub returns : goal.returns
returns c = λ seen h behind.
    longer_reaches seen c.args.reach.now c.args.claim.now c.reach_of_other_tasks.result c.reach_of_other_accesses.result h behind c.requires.field c.requires.last
    (c.reach_of_other_tasks.ensures seen h) (c.reach_of_other_accesses.ensures seen h)
