use Rattle.std.proofs.Common.{take}
use Rattle.point_kinds.specs.Marks.{AreSpacesRead}
use Rattle.point_kinds.proofs.read_points.spaces_read.Given as goal

abbrev pub invariant-loop-req : goal.invariant-loop-req
invariant-loop-req l = AreSpacesRead (take l.req-index l.reqs) l.ids
