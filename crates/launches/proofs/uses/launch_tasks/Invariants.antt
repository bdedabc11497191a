use Rattle.std.proofs.Common.{◌≡◌, map, take}
use Rattle.std.specs.List.{zip}
use Rattle.launches.specs.Steps.{launch_seen}
use Rattle.launches.specs.Uses.{tasks_by}
use Rattle.launches.proofs.uses.launch_tasks.Given as goal

abbrev pub invariant-loop-i : goal.invariant-loop-i
invariant-loop-i l = l.tasks.items ≡ map tasks_by (take l.i (zip l.lines (map launch_seen l.launches)))
