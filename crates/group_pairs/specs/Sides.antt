-- Groups as sides of a pair, and which pairs are free of each other.
use Rattle.std.specs.Prelude.{ℕ, ◌+◌, Bool, not, ◌&&◌, ◌||◌, List, [], ◌∷◌, count_by}
use Rattle.std.specs.List.{list_any}
use Rattle.vocabulary.specs.Prelude.{is_in}
use Rattle.licences.specs.Claims.{Claimed, conflict}

-- A group: its id, those of its ancestors, and what it may do.
pub record Sided : Type 0 where
  pub id : ℕ
  pub above : List ℕ
  pub claims : List Claimed

-- Whether some claim of the one list conflicts with one of the other.
abbrev pub clash : List Claimed → List Claimed → Bool
clash ours theirs = list_any (λ c. list_any (conflict c) theirs) ours

-- Whether no claim of the one conflicts with one of the other, and neither is above the other.
abbrev pub are_apart : Sided → Sided → Bool
are_apart a b = not (is_in b.above a.id || is_in a.above b.id) && not (clash a.claims b.claims)

-- How many pairs are so.
abbrev pub pairs_apart : List Sided → ℕ
pairs_apart [] = 0
pairs_apart (a ∷ rest) = count_by (are_apart a) rest + pairs_apart rest
