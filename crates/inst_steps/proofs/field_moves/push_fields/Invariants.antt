use Rattle.std.proofs.Common.{◌≡◌, ◌++◌, map, take}
use Rattle.inst_steps.specs.Sweeps.{move_at}
use Rattle.inst_steps.proofs.field_moves.push_fields.Given as goal

abbrev pub invariant-loop-field : goal.invariant-loop-field
invariant-loop-field g l = l.moves.items ≡ l.fn.moves.items ++ map (λ f. move_at l.log l.sweep.act (0, f)) (take l.field-index l.sweep.fields.now)
