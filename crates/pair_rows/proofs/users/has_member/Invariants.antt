use Rattle.std.proofs.Common.{◌≡◌, ℕ, ◌+◌, ◌<◌, false, take}
use Rattle.pair_rows.specs.Meetings.{uses_it}
use Rattle.pair_rows.proofs.users.has_member.Given as goal

abbrev pub invariant-loop-user : goal.invariant-loop-user
invariant-loop-user l = (i : ℕ) → i < 1024 → uses_it (take l.user-index l.users) (l.base + i) ≡ false
