use Rattle.std.proofs.Common.{◌≡◌, ◌++◌, drop, flat_map}
use Rattle.inst_steps.specs.Sweeps.{passes_of}
use Rattle.inst_steps.specs.FieldMoves.{field_moves, field_moves_of}
use Rattle.inst_steps.proofs.field_moves.push_field_moves.Given as goal

-- With what the sweeps that are left would do, what is listed is what all would do.
abbrev pub invariant-loop-k : goal.invariant-loop-k
invariant-loop-k g l = l.moves.items ++ flat_map (field_moves_of l.log) (drop l.k (passes_of l.log l.op))
    ≡ l.fn.moves.items ++ field_moves l.log l.op
