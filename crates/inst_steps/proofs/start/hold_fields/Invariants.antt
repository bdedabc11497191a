use Rattle.std.proofs.Common.{◌≡◌, take}
use Rattle.shared_values.specs.Arenas.{value_at}
use Rattle.inst_steps.specs.Stores.{HoldsMore, is_at_point}
use Rattle.inst_steps.proofs.start.hold_fields.Given as goal

abbrev pub invariant-loop-field : goal.invariant-loop-field
invariant-loop-field l = record {
  held : HoldsMore (is_at_point l.inst l.point (take l.field-index l.fields)) (λ c. value_at l.fn.store.values l.number) l.fn.store.cells
      l.store.cells;
  values : l.store.values ≡ l.fn.store.values;
}
