use Rattle.std.proofs.Common.{◌∙◌, ap, length}
use Rattle.task_order.proofs.Running.{run_is}
use Rattle.task_order.proofs.runs.runs_of.Goals as goal

pub returns : goal.returns
returns g c = record {
  each = c.in_ok-runs.ensures.each ∙ ap length c.items.ensures;
  runs_are = run_is c.args.log.now c.nodes.result.now c.nodes.ensures c.in_ok-runs.runs.items c.in_ok-runs.ensures.runs;
}
