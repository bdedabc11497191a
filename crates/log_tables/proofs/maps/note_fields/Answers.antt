use Rattle.std.proofs.Common.{ℕ, cond, get_or, Option, Some, None, ap, ◌∙◌, arith}
use Rattle.std.specs.Option.{option_or}
use Rattle.indexmap.specs.IndexMap.{get}
use Rattle.log_tables.specs.Mapped.{same_field}
use Rattle.log_tables.proofs.Mapping.{fields_more}
use Rattle.log_tables.proofs.maps.note_fields.Goals as goal

pub loop-field-preserved : goal.loop-field-preserved
loop-field-preserved c = record {
  noted = λ k.
      let i = c.loop-field.field-index in
      let fields = c.args.fields.now in
      let inv = c.loop-field.invariant in
      c.in_ok-note_first.ensures.ok k
      ∙ ap (λ (o : Option ℕ). option_or o
      (cond (same_field (record { item = c.args.item; number = c.args.number; field = get_or fields i 0 }) k) (Some c.args.inst) None))
      (inv.noted k)
      ∙ fields_more (get same_field c.args.insts.now k) c.args.item c.args.number c.args.inst fields i 0 k c.loop-field-test.true;
  room = λ le. omega (arith, c.in_ok-note_first.ensures.spare, c.loop-field.invariant.room le);
}
