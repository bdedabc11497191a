use Rattle.plane_gaps.proofs.Free.{ArePassed}
use Rattle.plane_gaps.proofs.gaps.gaps_of.Given as goal

abbrev pub invariant-loop-rect : goal.invariant-loop-rect
invariant-loop-rect l = ArePassed l.rects l.gaps.items l.edge l.rect-index
