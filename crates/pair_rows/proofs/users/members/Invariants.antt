use Rattle.std.proofs.Common.{◌≡◌, ℕ, ◌+◌, ◌<◌, take}
use Rattle.bit_words.specs.Bits.{has_bit}
use Rattle.pair_rows.specs.Meetings.{uses_it}
use Rattle.pair_rows.proofs.users.members.Given as goal

abbrev pub invariant-loop-user : goal.invariant-loop-user
invariant-loop-user l = (i : ℕ) → i < 1024 → has_bit l.bits i ≡ uses_it (take l.user-index l.users) (l.base + i)
