use Rattle.std.proofs.Common.{◌≡◌, ℕ, ◌<◌, false, Contains}
use Rattle.vocabulary.specs.Prelude.{Req, uses_of}
use Rattle.semantics.specs.Shown.{is_task_at}
use Rattle.serial_scan.specs.Claims.{HasClaim, Keeps}
use Rattle.serial_scan.proofs.claims.push_fills.Given as goal

abbrev pub invariant-loop-item : goal.invariant-loop-item
invariant-loop-item g l = record {
  kept : Keeps l.fn.claims.items l.claims.items;
  added : (item : ℕ) → item < l.item → is_task_at l.log item ≡ false → (r : Req) → Contains (uses_of l.log item) r
      → HasClaim l.log l.claims.items item r;
}
