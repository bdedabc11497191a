use Rattle.std.proofs.Common.{◌≡◌, ℕ, ◌<◌, map, take}
use Rattle.std.specs.List.{list_any}
use Rattle.bit_words.specs.Bits.{has_bit}
use Rattle.reach_marks.specs.Blocks.{block_of, reaches_in}
use Rattle.reach_marks.proofs.tags.joined.Given as goal

abbrev pub invariant-loop-w : goal.invariant-loop-w
invariant-loop-w l = (i : ℕ) → i < 1024
    → has_bit l.bits i ≡ list_any (λ w. reaches_in l.k (map (block_of l.pool) l.tags) w i) (take l.w-index l.waits)
