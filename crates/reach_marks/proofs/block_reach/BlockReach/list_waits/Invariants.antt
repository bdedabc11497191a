use Rattle.std.proofs.Common.{All}
use Rattle.reach_marks.specs.BlockMarks.{IsMarkedWait}
use Rattle.reach_marks.proofs.block_reach.BlockReach.list_waits.Given as goal

abbrev pub invariant-loop-k : goal.invariant-loop-k
invariant-loop-k l = All (IsMarkedWait l.graph l.order l.self l.node) l.waits.items
