use Rattle.vocabulary.specs.Prelude.{tables_of}
use Rattle.semantics.specs.declared.command.Command.TheVariants.{Check}
use Rattle.log_laws.proofs.lemmas.Admitted.{faultless}
use Rattle.log_laws.proofs.lemmas.Answers.{one_state, one_sight}
use Rattle.log_laws.proofs.lemmas.Laws.{faultless_by_reads}
use Rattle.log_laws.proofs.step_laws.faultless_logs_have_one_answer.Goals as goal

pub returns : goal.returns
returns c = record {
  state = λ lines log none. one_state (tables_of log) (faultless_by_reads log (faultless Check lines log none));
  reads = λ lines log none. one_sight (tables_of log) (faultless_by_reads log (faultless Check lines log none));
}
