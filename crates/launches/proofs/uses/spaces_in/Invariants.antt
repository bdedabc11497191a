use Rattle.std.proofs.Common.{◌≡◌, map, take}
use Rattle.std.specs.List.{filter_map, zip}
use Rattle.launches.specs.Uses.{space_by_record, space_seen}
use Rattle.launches.proofs.uses.spaces_in.Given as goal

abbrev pub invariant-loop-i : goal.invariant-loop-i
invariant-loop-i g l = map (space_seen g.P.PointSet.points) l.spaces ≡ filter_map space_by_record (take l.i (zip l.lines l.written))
