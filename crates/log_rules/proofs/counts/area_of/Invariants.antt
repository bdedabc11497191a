use Rattle.std.proofs.Common.{◌≡◌, map, take}
use Rattle.vocabulary.specs.Prelude.{rect_of}
use Rattle.point_set.proofs.lemmas.Counted.{areas}
use Rattle.log_limits.specs.Sums.{cut}
use Rattle.log_rules.proofs.counts.area_of.Given as goal

abbrev pub invariant-loop-quad : goal.invariant-loop-quad
invariant-loop-quad l = l.count ≡ cut (areas (take l.quad-index (map rect_of l.quads)))
