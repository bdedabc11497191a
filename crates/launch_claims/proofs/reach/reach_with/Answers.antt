use Rattle.std.proofs.Common.{subst}
use Rattle.launch_claims.specs.Reaches.{MeasuresSoFar}
use Rattle.launch_claims.proofs.reach.reach_with.Goals as goal

pub returns-in-None : goal.returns-in-None
returns-in-None c = λ seen h behind. c.first_of_field.ensures seen
    (λ d in_seen. absurd (subst (λ o. MeasuresSoFar o seen) c.in-None.is h d in_seen)) behind
