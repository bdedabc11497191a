use Rattle.std.proofs.Common.{◌≡◌, ℕ, length, slice_get}
use Rattle.id_maps.specs.Entries.{held}
use Rattle.id_maps.proofs.grow.Given as goal

abbrev pub invariant-loop : goal.invariant-loop
invariant-loop g l = record {
  long : length l.table.items ≡ l.counter;
  same : (k : ℕ) → held (slice_get l.table.items k) ≡ held (slice_get (l.fn).table.items k);
}
