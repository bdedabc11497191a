use Rattle.std.proofs.Common.{◌≡◌, ℕ, take, nat_eq, Some, if◌then◌else◌}
use Rattle.std.specs.HashMap.{get}
use Rattle.vocabulary.specs.Prelude.{is_in}
use Rattle.logs.proofs.serial_order.note_line.Given as goal

abbrev pub invariant-loop-id : goal.invariant-loop-id
invariant-loop-id l = (id : ℕ) → get nat_eq l.lines id
    ≡ (if is_in (take l.id-index l.ids) id then Some l.line else get nat_eq l.initial.lines id)
