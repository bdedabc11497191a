use Rattle.std.proofs.Common.{◌≡◌, length}
use Rattle.partings.proofs.Leading.{AreLeadsSoFar}
use Rattle.partings.proofs.first_places.leads.Given as goal

abbrev pub invariant-loop-k : goal.invariant-loop-k
invariant-loop-k l = record {
  each : length l.seen.items ≡ l.end;
  so_far : AreLeadsSoFar l.k l.numbers l.points l.seen.items l.leads.items;
}
