use Rattle.std.proofs.Common.{◌∙◌, ap, sym}
use Rattle.vocabulary.specs.Prelude.{Lined}
use Rattle.semantics.specs.Rules.{runs_task}
use Rattle.log_rules.proofs.ListTests.{any_record}
use Rattle.log_rules.proofs.whole_log.is_run.Goals as goal

pub returns-then-runs_task : goal.returns-then-runs_task
returns-then-runs_task c =
    sym
    (any_record (runs_task c.args.task) c.args.log.now c.loop-l.l-index c.l-item.result c.loop-l-test.true
    (ap (λ (l : Lined). runs_task c.args.task l.rec) (sym c.l-item.is) ∙ sym c.if-runs_task.ensures))
