use Rattle.std.proofs.Common.{◌≡◌, take, filter}
use Rattle.overlaps.specs.Meeting.{spans}
use Rattle.overlaps.proofs.node.spanning.Given as goal

abbrev pub invariant-loop-rect : goal.invariant-loop-rect
invariant-loop-rect l = l.wide.items ≡ filter (spans l.lo l.hi) (take l.rect-index l.rects)
