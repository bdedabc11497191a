use Rattle.launch_claims.proofs.Reaching.{first_reaches}
use Rattle.launch_claims.proofs.reach.first_of_field.Goals as goal

pub returns : goal.returns
returns c = λ seen apart behind. first_reaches seen c.args.claim.now behind apart
