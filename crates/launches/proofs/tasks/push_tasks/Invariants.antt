use Rattle.std.proofs.Common.{◌≡◌, ◌+◌, ◌++◌, take}
use Rattle.spy_grammar.specs.declared.record.Record.TheVariants as records
use Rattle.semantics.specs.Launches.{for_tasks}
use Rattle.launches.proofs.tasks.push_tasks.Given as goal

abbrev pub invariant-loop-colour : goal.invariant-loop-colour
invariant-loop-colour l = record {
  at : l.id ≡ l.base + l._colour-index;
  written : l.writing ≡ l.fn.writing ++ for_tasks (λ id colour. records.Task id) l.base (take l._colour-index l.colours);
}
