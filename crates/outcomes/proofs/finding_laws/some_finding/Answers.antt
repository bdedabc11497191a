use Rattle.outcomes.proofs.Existing.{found_in}
use Rattle.outcomes.proofs.finding_laws.some_finding.Goals as goal

pub returns : goal.returns
returns c = found_in
