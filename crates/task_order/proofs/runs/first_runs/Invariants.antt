use Rattle.std.proofs.Common.{◌≡◌, ◌≤◌, length}
use Rattle.task_order.specs.Runs.{AreRunsFrom}
use Rattle.task_order.proofs.runs.first_runs.Given as goal

abbrev pub invariant-loop-k : goal.invariant-loop-k
invariant-loop-k l = record {
  within : l.k ≤ length l.nodes;
  each : length l.runs.items ≡ l.fn.items;
  so_far : AreRunsFrom l.nodes l.k l.runs.items;
}

abbrev pub decreases-loop-k : goal.decreases-loop-k
decreases-loop-k l = l.k
