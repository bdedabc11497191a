use Rattle.std.proofs.Common.{true}
use Rattle.cell_bits.proofs.BitWords.{AreAll}
use Rattle.cell_bits.proofs.words.are_within.Given as goal

abbrev pub invariant-loop-k : goal.invariant-loop-k
invariant-loop-k l = AreAll true l.ours l.theirs l.k
