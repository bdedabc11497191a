use Rattle.semantics.specs.Nesting.{nested_tables, nesting_of}
use Rattle.nest_laws.proofs.lemmas.Groups.{task_licensed}
use Rattle.nested.proofs.Origins.{on_ok_then}
use Rattle.nested.proofs.building.build.Goals as goal

pub returns-clause-tasks : goal.returns-clause-tasks
returns-clause-tasks g c =
    let log = c.args.records.items in
    on_ok_then c.built.result (task_licensed (nested_tables log) (nesting_of log)) c.built.ensures.licensed
