use Rattle.vocabulary.specs.Prelude.{tables_of}
use Rattle.semantics.specs.declared.command.Command.TheVariants.{Check}
use Rattle.log_laws.proofs.lemmas.Admitted.{faultless, consistent}
use Rattle.long_values.proofs.LiftExecution.{read_there}
use Rattle.long_values.proofs.Named.{named, run_once}
use Rattle.long_values.proofs.laws.tasks_read_where_they_should.Goals as goal

pub returns : goal.returns
returns c lines log none xs il r m =
    let t = tables_of log in
    let f = faultless Check lines log none in
    (read_there t (named Check log f) (run_once Check log f) (consistent Check log f) xs il r m)
