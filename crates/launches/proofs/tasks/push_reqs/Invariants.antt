use Rattle.std.proofs.Common.{◌≡◌, ℕ, ◌+◌, ◌++◌, take}
use Rattle.semantics.specs.Launches.{for_tasks}
use Rattle.launches.specs.Steps.{req_for, space_by}
use Rattle.launches.proofs.tasks.push_reqs.Given as goal

abbrev pub invariant-loop-colour : goal.invariant-loop-colour
invariant-loop-colour l = record {
  at : l.id ≡ l.base + l.colour-index;
  same : (colour : ℕ) → space_by l.writing l.reqs.part colour ≡ space_by l.fn.writing l.reqs.part colour;
  written : l.writing ≡ l.fn.writing ++ for_tasks (req_for l.fn.writing l.reqs) l.base (take l.colour-index l.colours);
}
