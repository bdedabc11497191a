use Rattle.std.proofs.Common.{take}
use Rattle.point_set.specs.Runs.{points_of}
use Rattle.arena_sets.specs.Pieces.{ArePieces}
use Rattle.arena_sets.proofs.arena_set.RectSetArenaSet.place.Given as goal

abbrev pub invariant-loop-run : goal.invariant-loop-run
invariant-loop-run l = ArePieces (points_of (take l.run-index l.runs)) l.rects.items
