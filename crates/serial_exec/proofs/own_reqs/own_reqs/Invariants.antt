use Rattle.std.proofs.Common.{take}
use Rattle.serial_exec.specs.OwnReqs.{AreOwn}
use Rattle.serial_exec.proofs.own_reqs.own_reqs.Given as goal

abbrev pub invariant-loop-k : goal.invariant-loop-k
invariant-loop-k l = AreOwn l.reqs (take l.k l.reqs) l.count l.lists
