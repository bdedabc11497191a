use Rattle.outcomes.proofs.lemmas.Found.{one_answered}
use Rattle.outcomes.proofs.finding_laws.one_outcome.Goals as goal

pub returns : goal.returns
returns c = one_answered
