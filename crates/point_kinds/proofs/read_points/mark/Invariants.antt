use Rattle.std.proofs.Common.{take}
use Rattle.point_kinds.specs.Marks.{MarksMore}
use Rattle.point_kinds.proofs.read_points.mark.Given as goal

abbrev pub invariant-loop-place : goal.invariant-loop-place
invariant-loop-place l = MarksMore (take l.place-index l.places) l.fn.marks.items l.marks.items
