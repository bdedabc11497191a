use Rattle.vocabulary.specs.Prelude.{tables_of}
use Rattle.semantics.specs.declared.command.Command.TheVariants.{Check}
use Rattle.list_lemmas.proofs.lemmas.Pairs.{Apart, apart_none}
use Rattle.log_laws.proofs.lemmas.Admitted.{faultless, consistent, all_mapped}
use Rattle.log_laws.proofs.Strict.{strict}
use Rattle.log_laws.proofs.lemmas.OwnConflicts.{moves_once}
use Rattle.log_laws.proofs.Replay.{at_position, steps_once}
use Rattle.log_laws.proofs.step_laws.steps_are_listed_once.Goals as goal

pub returns : goal.returns
returns c lines log good none =
    let t = tables_of log in
    let f = faultless Check lines log none in
    let clear = strict Check log good f in
    (steps_once t
    (at_position t Apart apart_none (λ n m. moves_once t (consistent Check log f) (all_mapped log f) clear n.op (clear.operations n m))))
