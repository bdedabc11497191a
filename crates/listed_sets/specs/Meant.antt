-- What a set at listed points means.
use Rattle.std.specs.Prelude.{ℕ, List}
use Rattle.point_set.specs.declared.set.PointSet.{Ghosts}
use Rattle.point_laws.specs.Cut.{kept}
use Rattle.listed_sets.specs.Listed.{listed_of}
use Rattle.listed_sets.specs.declared.listed.Listed.{Listed}

-- Its points.
abbrev pub listed_points : {S : Type 0} {g : Ghosts S} → Listed S g → List ℕ
listed_points {S} {g} s = kept (listed_of s.listed) (g.points s.set.now)
