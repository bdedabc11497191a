use Rattle.std.proofs.Common.{ap, sym, ◌∙◌, ◌<◌, length, subst}
use Rattle.shared_values.specs.Arenas.{value_at}
use Rattle.inst_steps.proofs.Starting.{more_field}
use Rattle.inst_steps.proofs.start.hold_fields.Goals as goal

pub hold-requires : goal.hold-requires
hold-requires c = subst (λ values. c.args.number < length values) (sym c.loop-field.invariant.values) c.requires

pub loop-field-preserved : goal.loop-field-preserved
loop-field-preserved c = record {
  held = more_field c.args.inst c.args.point c.args.fields.now c.loop-field.field-index _ (value_at c.args.store.now.values c.args.number)
      (value_at c.loop-field.store.values c.args.number) c.args.store.now.cells c.loop-field.store.cells c.hold.new.self.cells
      c.loop-field-test.true (ap (λ values. value_at values c.args.number) c.loop-field.invariant.values) c.loop-field.invariant.held
      c.in_ok-hold.ensures.ok;
  values = c.hold.ensures.values ∙ c.loop-field.invariant.values;
}
