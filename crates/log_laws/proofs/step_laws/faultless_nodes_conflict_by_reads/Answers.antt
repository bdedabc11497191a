use Rattle.semantics.specs.declared.command.Command.TheVariants.{Check}
use Rattle.log_laws.proofs.lemmas.Admitted.{faultless}
use Rattle.log_laws.proofs.lemmas.Laws.{faultless_by_reads}
use Rattle.log_laws.proofs.step_laws.faultless_nodes_conflict_by_reads.Goals as goal

pub returns : goal.returns
returns c lines log none = faultless_by_reads log (faultless Check lines log none)
