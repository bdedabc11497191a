use Rattle.std.proofs.Common.{◌≡◌, map, take}
use Rattle.std.specs.List.{filter_map, zip}
use Rattle.launches.specs.Uses.{asked_by, space_seen, use_seen}
use Rattle.launches.proofs.uses.requirements_in.Given as goal

abbrev pub invariant-loop-i : goal.invariant-loop-i
invariant-loop-i g l = map (use_seen g.P.PointSet.points) l.reqs.items
    ≡ filter_map (asked_by (map (space_seen g.P.PointSet.points) l.spaces)) (take l.i (zip l.lines l.written))
