use Rattle.std.proofs.Common.{arith}
use Rattle.item_uses.proofs.span.Span.union.Goals as goal

pub returns-clause-ours : goal.returns-clause-ours
returns-clause-ours c u w = record {
  tree = (omega (arith, w.tree), omega (arith, w.tree));
  points = λ x m. (omega (arith, w.points x m), omega (arith, w.points x m));
  fields = λ x m. (omega (arith, w.fields x m), omega (arith, w.fields x m));
  access = c.union.ensures.ours u.access w.access;
}

pub returns-clause-theirs : goal.returns-clause-theirs
returns-clause-theirs c u w = record {
  tree = (omega (arith, w.tree), omega (arith, w.tree));
  points = λ x m. (omega (arith, w.points x m), omega (arith, w.points x m));
  fields = λ x m. (omega (arith, w.fields x m), omega (arith, w.fields x m));
  access = c.union.ensures.theirs u.access w.access;
}
