use Rattle.std.proofs.Common.{◌+◌, nat_eq, take}
use Rattle.std.specs.HashMap.{get}
use Rattle.partings.proofs.Giving.{AreSoFar}
use Rattle.partings.proofs.parting.part.Given as goal

abbrev pub invariant-loop-k : goal.invariant-loop-k
invariant-loop-k l =
    AreSoFar (take l.k l.places) l.next (l.next + l.k) (get nat_eq l.given) l.initial.numbers.items l.numbers.items
