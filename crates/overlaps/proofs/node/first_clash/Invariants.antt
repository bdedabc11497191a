use Rattle.std.proofs.Common.{◌≡◌, drop}
use Rattle.overlaps.specs.Meeting.{clash_from, no_ends}
use Rattle.overlaps.proofs.node.first_clash.Given as goal

abbrev pub invariant-loop-rect : goal.invariant-loop-rect
invariant-loop-rect l = clash_from l.lo l.hi no_ends l.rects ≡ clash_from l.lo l.hi l.ends (drop l.rect-index l.rects)
