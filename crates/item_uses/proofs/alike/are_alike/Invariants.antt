use Rattle.std.proofs.Common.{take}
use Rattle.item_uses.specs.Representatives.{AreAlike}
use Rattle.item_uses.proofs.alike.are_alike.Given as goal

abbrev pub invariant-loop-i : goal.invariant-loop-i
invariant-loop-i g l = AreAlike (take l.i l.ours) (take l.i l.theirs)
