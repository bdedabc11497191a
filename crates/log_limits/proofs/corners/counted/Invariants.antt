use Rattle.std.proofs.Common.{◌≡◌, List, map, take}
use Rattle.vocabulary.specs.Prelude.{Rect}
use Rattle.grid.specs.Cuts.{grid_of}
use Rattle.log_tables.specs.Views.{space_seen}
use Rattle.log_limits.specs.Corners.{space_corners}
use Rattle.log_limits.proofs.corners.counted.Given as goal

abbrev pub invariant-loop-space : goal.invariant-loop-space
invariant-loop-space g l = (all : List Rect) → l.grid ≡ grid_of all
    → l.rows ≡ map (space_corners all) (map (space_seen g.P.PointSet.points) (take l.space-index l.spaces))
