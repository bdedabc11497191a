use Rattle.std.proofs.Common.{arith}
use Rattle.spy_grammar.specs.declared.record.Record.TheVariants as records
use Rattle.launches.proofs.TaskLists.{one_task_more}
use Rattle.launches.proofs.tasks.push_tasks.Goals as goal

pub loop-colour-preserved : goal.loop-colour-preserved
loop-colour-preserved c =
    let inv = c.loop-colour.invariant in
    record {
      at = omega (arith, inv.at);
      written = one_task_more
          (λ id colour. records.Task id) c.args.writing.now c.loop-colour.writing c.push.new.self c.args.base c.loop-colour.id c.loop-colour._colour-index c.args.colours.now inv.written inv.at c.loop-colour-test.true c.in_ok-push.ensures;
    }
