use Rattle.std.proofs.Common.{◌≡◌, take}
use Rattle.region_tree.specs.Wholes.{near}
use Rattle.region_tree.proofs.wholes.near.Given as goal

abbrev pub invariant-loop-rect : goal.invariant-loop-rect
invariant-loop-rect l = l.found.items ≡ near l.last (take l.rect-index l.rects)
