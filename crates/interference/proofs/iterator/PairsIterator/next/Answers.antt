use Rattle.std.proofs.Common.{arith}
use Rattle.interference.proofs.iterator.PairsIterator.next.Goals as goal

pub overflow_add-self : goal.overflow_add-self
overflow_add-self g c = omega (arith, c.self.invariant.1, c.in-Some.ensures.some.within)
