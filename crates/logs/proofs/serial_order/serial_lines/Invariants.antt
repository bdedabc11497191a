use Rattle.std.proofs.Common.{◌≡◌, ℕ, drop, nat_eq}
use Rattle.std.specs.HashMap.{get}
use Rattle.logs.specs.Listing.{line_listing}
use Rattle.logs.proofs.serial_order.serial_lines.Given as goal

abbrev pub invariant-loop-k : goal.invariant-loop-k
invariant-loop-k l = (id : ℕ) → get nat_eq l.lines id ≡ line_listing (drop l.k l.serials) id
