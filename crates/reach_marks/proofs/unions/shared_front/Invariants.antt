use Rattle.std.proofs.Common.{◌≡◌, ◌/◌, ◌<◌, ℕ, true, take}
use Rattle.reach_marks.specs.Unions.{in_some_row}
use Rattle.reach_marks.proofs.unions.shared_front.Given as goal

abbrev pub invariant-loop-p : goal.invariant-loop-p
invariant-loop-p l = (q : ℕ) → q / 1024 < l.front → in_some_row l.rows (take l.p-index l.places) q ≡ true
