use Rattle.arena_sets.proofs.Cutting.{filled_to_gap, filled_to_end}
use Rattle.arena_sets.proofs.pieces.run_end.Goals as goal

pub returns-in-Some : goal.returns-in-Some
returns-in-Some g c = filled_to_gap (g.P.PointSet.points c.args.set.now) c.args.first c.in-Some.gap c.requires c.in-Some.ensures

pub returns-in-None : goal.returns-in-None
returns-in-None g c = filled_to_end (g.P.PointSet.points c.args.set.now) c.args.first c.ranges.first.fits c.in-None.ensures
