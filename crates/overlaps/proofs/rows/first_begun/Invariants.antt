use Rattle.overlaps.proofs.Lists.{NoneBegun}
use Rattle.overlaps.proofs.rows.first_begun.Given as goal

abbrev pub invariant-loop-other : goal.invariant-loop-other
invariant-loop-other l = NoneBegun l.rects l.others l.reached l.other-index
