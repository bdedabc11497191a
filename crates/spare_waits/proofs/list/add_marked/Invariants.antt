use Rattle.std.proofs.Common.{◌≡◌, ◌++◌, take}
use Rattle.spare_laws.specs.Listed.{marked}
use Rattle.spare_waits.proofs.list.add_marked.Given as goal

abbrev pub invariant-loop-k : goal.invariant-loop-k
invariant-loop-k l = l.list.items ≡ l.fn.list.items ++ marked l.node 0 (take l.k l.marks)
