use Rattle.log_laws.proofs.lemmas.Answers.{one_state, one_sight}
use Rattle.log_laws.proofs.answer_laws.one_answer.Goals as goal

pub returns-clause-state : goal.returns-clause-state
returns-clause-state c = one_state

pub returns-clause-reads : goal.returns-clause-reads
returns-clause-reads c = one_sight
