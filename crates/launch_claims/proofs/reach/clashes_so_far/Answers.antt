use Rattle.std.proofs.Common.{subst}
use Rattle.std.proofs.lemmas.Bool.{false≢true}
use Rattle.launch_claims.specs.Reaches.{MeasuresSoFar}
use Rattle.launch_claims.proofs.Reaching.{none_clashes}
use Rattle.launch_claims.proofs.reach.clashes_so_far.Goals as goal

pub returns-in-None : goal.returns-in-None
returns-in-None c = λ seen h behind none. (
  λ told. absurd (false≢true told),
  λ some. absurd (none_clashes seen c.args.claim.now (subst (λ o. MeasuresSoFar o seen) c.in-None.is h) some),
)
