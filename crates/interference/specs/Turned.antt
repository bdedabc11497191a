-- Pairs that stand against the serial order.
use Rattle.std.specs.Prelude.{ℕ, nat_lt, Bool, ◌&&◌, List, Option, find, slice_index}
use Rattle.vocabulary.specs.Prelude.{is_before}
use Rattle.interference.specs.declared.pair.Pair.{Pair}

-- Whether a pair is of kind `Before` and stands against the serial order, by the place of each item there.
abbrev pub is_turned : List ℕ → Pair → Bool
is_turned places p = is_before p.kind && nat_lt (slice_index places p.b) (slice_index places p.a)

-- The first such pair.
abbrev pub turned : List ℕ → List Pair → Option Pair
turned places ps = find (is_turned places) ps
