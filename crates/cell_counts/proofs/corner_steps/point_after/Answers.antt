use Rattle.cell_counts.proofs.CornersSoFar.{past_gap}
use Rattle.cell_counts.proofs.corner_steps.point_after.Goals as goal

pub returns-in-Some-clause-next : goal.returns-in-Some-clause-next
returns-in-Some-clause-next g c = λ all is.
    past_gap all (g.P.PointSet.points c.args.set.now) c.args.p c.in-Some.from c.next_from.result (c.in-Some.ensures.step all is) c.next_from.ensures
