use Rattle.semantics.specs.declared.command.Command.TheVariants.{Check}
use Rattle.log_laws.proofs.lemmas.Admitted.{faultless}
use Rattle.log_laws.proofs.lemmas.Laws.{replay_interleaves}
use Rattle.log_laws.proofs.step_laws.replay_is_an_interleaving.Goals as goal

pub returns : goal.returns
returns c lines log good none = replay_interleaves log good (faultless Check lines log none)
