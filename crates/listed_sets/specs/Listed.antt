-- The points that a reference lists, if there is one.
use Rattle.std.specs.Prelude.{ℕ, List, Option, option_map, IfSome}
use Rattle.std.specs.Borrow.{Bor}
use Rattle.std.specs.List.Sorted.{IsStrictlyIncreasing}

abbrev pub listed_of : Option (Bor (List ℕ)) → Option (List ℕ)
listed_of listed = option_map (λ (points : Bor (List ℕ)). points.now) listed

-- Each listed point is below the next.
abbrev pub IsAscending : Option (Bor (List ℕ)) → Type 0
IsAscending listed = IfSome listed (λ (points : Bor (List ℕ)). IsStrictlyIncreasing points.now)
