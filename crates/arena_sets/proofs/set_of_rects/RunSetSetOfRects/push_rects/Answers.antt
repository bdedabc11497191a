use Rattle.std.proofs.lemmas.Result.{on_ok_weaker}
use Rattle.point_set.specs.Runs.{points_of}
use Rattle.arena_sets.proofs.Cutting.{rects_added}
use Rattle.arena_sets.proofs.set_of_rects.RunSetSetOfRects.push_rects.Goals as goal

pub returns : goal.returns
returns c = on_ok_weaker c.push_runs.result (rects_added c.args.rects.now.items c.push_runs.new.rects.items
    (points_of c.args.self.now.runs.now) c.args.self.now.ascends) c.push_runs.ensures
