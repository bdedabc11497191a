use Rattle.launch_claims.proofs.Claimed.{agreed}
use Rattle.launch_claims.proofs.interference.all_agree.Goals as goal

pub returns-in-Some : goal.returns-in-Some
returns-in-Some g c = λ told. agreed c.in-Some.first.now.access c.args.reqs.now (c.agrees_with_all.ensures.0 told)
