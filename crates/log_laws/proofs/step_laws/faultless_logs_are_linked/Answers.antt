use Rattle.log_laws.proofs.lemmas.Admitted.{faultless}
use Rattle.log_laws.proofs.lemmas.Laws.{faultless_linked}
use Rattle.log_laws.proofs.step_laws.faultless_logs_are_linked.Goals as goal

pub returns : goal.returns
returns c command lines log good none = faultless_linked command log good (faultless command lines log none)
