use Rattle.std.proofs.lemmas.Result.{on_ok_weaker}
use Rattle.arena_sets.proofs.Cutting.{rects_added}
use Rattle.arena_sets.proofs.set_of_rects.PointListSetOfRects.push_rects.Goals as goal

pub returns : goal.returns
returns c = on_ok_weaker c.push_runs.result
    (rects_added c.args.rects.now.items c.push_runs.new.rects.items c.args.self.now.points.now c.args.self.now.ascends) c.push_runs.ensures
