use Rattle.std.proofs.Common.{arith}
use Rattle.item_uses.proofs.usage.Use.new.Goals as goal

pub invariant_of-result : goal.invariant_of-result
invariant_of-result g c = (
  c.requires,
  record {
    tree = (omega arith, omega arith);
    points = λ x m. c.ends_of-first_point.ensures x m;
    fields = λ f m. (c.first_field.ensures f m, c.last_field.ensures f m);
    access = c.of.ensures;
  },
)
