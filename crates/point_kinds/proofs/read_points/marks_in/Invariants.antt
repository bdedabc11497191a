use Rattle.std.proofs.Common.{map, take}
use Rattle.log_tables.specs.Views.{space_seen}
use Rattle.point_kinds.specs.Marks.{AreMarked}
use Rattle.point_kinds.proofs.read_points.marks_in.Given as goal

abbrev pub invariant-loop-space : goal.invariant-loop-space
invariant-loop-space g l = AreMarked (map (space_seen g.P.PointSet.points) (take l.space-index l.spaces)) l.ids l.points l.marks.items
