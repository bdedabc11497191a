use Rattle.log_gen.proofs.lemmas.Spelled.{log_good}
use Rattle.log_gen.proofs.Counted.{log_length}
use Rattle.log_gen.proofs.laws.stencil_logs_are_good.Goals as goal

pub returns-clause-good : goal.returns-clause-good
returns-clause-good c = λ n some few. log_good n few

pub returns-clause-count : goal.returns-clause-count
returns-clause-count c = log_length
