use Rattle.std.proofs.Common.{◌≡◌, map, take}
use Rattle.vocabulary.specs.Prelude.{rect_of}
use Rattle.log_tables.proofs.adding.rects_of.Given as goal

abbrev pub invariant-loop-quad : goal.invariant-loop-quad
invariant-loop-quad l = l.rects.items ≡ map rect_of (take l.quad-index l.quads)
