use Rattle.std.proofs.Common.{◌≡◌, map, take}
use Rattle.item_uses.specs.Gathered.{own_usages}
use Rattle.item_uses.proofs.gathering.own_uses_of_all.Given as goal

abbrev pub invariant-loop-item : goal.invariant-loop-item
invariant-loop-item g l = l.all.items ≡ map (own_usages l.tables) (take l.item-index l.item-items)
