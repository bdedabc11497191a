use Rattle.std.proofs.Common.{false}
use Rattle.cell_bits.proofs.BitWords.{AreAll}
use Rattle.cell_bits.proofs.words.have_common.Given as goal

abbrev pub invariant-loop-k : goal.invariant-loop-k
invariant-loop-k l = AreAll false l.ours l.theirs l.k
