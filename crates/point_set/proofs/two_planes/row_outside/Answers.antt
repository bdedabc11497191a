use Rattle.std.proofs.Common.{subst}
use Rattle.point_set.specs.Rects.{Has}
use Rattle.point_set.proofs.Numbers.{row_fits}
use Rattle.point_set.proofs.two_planes.row_outside.Goals as goal

pub returns-in_default-gap_row : goal.returns-in_default-gap_row
returns-in_default-gap_row c = λ q h. c.in_default-gap_row.ensures q (
  h.1,
  c.in-Some.ensures.1 q (h.0, c.loop-row.invariant q h.0 h.1),
  row_fits c.args.ours.now c.args.x q c.requires.ours h.0,
)

pub returns-then-gap-row : goal.returns-then-gap-row
returns-then-gap-row c = (
  (c.in-Some.ensures.0.0, subst (λ v. ¬ Has c.args.theirs.now c.args.x v) c.if-gap-row.true c.in-Some-gap_row.ensures.0.0),
  λ q h. c.in-Some.ensures.1 q (h.0, c.loop-row.invariant q h.0 h.1),
)

pub loop-row-preserved : goal.loop-row-preserved
loop-row-preserved c = λ v ours missed. c.in-Some-gap_row.ensures.1 v (
  missed,
  c.in-Some.ensures.1 v (ours, c.loop-row.invariant v ours missed),
  row_fits c.args.ours.now c.args.x v c.requires.ours ours,
)
