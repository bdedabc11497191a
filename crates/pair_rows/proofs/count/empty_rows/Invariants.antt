use Rattle.std.proofs.Common.{◌≡◌, length}
use Rattle.pair_rows.proofs.Sums.{AreEmpty}
use Rattle.pair_rows.proofs.count.empty_rows.Given as goal

abbrev pub invariant-loop-k : goal.invariant-loop-k
invariant-loop-k l = record {
  long : length l.rows.items ≡ l._k;
  empty : AreEmpty l.rows.items;
}
