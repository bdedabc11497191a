use Rattle.std.proofs.Common.{Contains, subst, arith}
use Rattle.listed_sets.proofs.common.next_common.Goals as goal

pub returns-in_default : goal.returns-in_default
returns-in_default g c = λ q h. c.in_default.ensures q (h.1, c.loop-theirs.invariant.least q h.0 h.1 h.2)

pub returns-in_default-next_from : goal.returns-in_default-next_from
returns-in_default-next_from g c = λ q h. c.in_default-next_from.ensures q (
  h.0,
  c.in-Some.ensures.1 q (h.1, c.loop-theirs.invariant.least q h.0 h.1 h.2),
)

pub returns-then-ours-theirs : goal.returns-then-ours-theirs
returns-then-ours-theirs g c = (
  (
    subst (Contains (g.P.PointSet.points c.args.set.now)) c.if-ours-theirs.true c.in-Some-next_from.ensures.0.0,
    c.in-Some.ensures.0.0,
    omega (arith, c.loop-theirs.invariant.low, c.in-Some.ensures.0.1),
  ),
  λ q h. c.in-Some.ensures.1 q (h.1, c.loop-theirs.invariant.least q h.0 h.1 h.2),
)

pub loop-theirs-preserved : goal.loop-theirs-preserved
loop-theirs-preserved g c = record {
  least = λ q ours theirs low. c.in-Some-next_from.ensures.1 q (
    ours,
    c.in-Some.ensures.1 q (theirs, c.loop-theirs.invariant.least q ours theirs low),
  );
  low = omega (arith, c.loop-theirs.invariant.low, c.in-Some.ensures.0.1, c.in-Some-next_from.ensures.0.1);
}
