-- What tasks of a launch claim, and which of it clashes.
use Rattle.std.specs.Prelude.{◌≡◌, ℕ, ◌+◌, ◌==◌, max, min, nat_le, nat_lt, Bool, not, ◌&&◌, List, filter, Contains, IsTrue}
use Rattle.privilege.specs.Interference.{agree}
use Rattle.launch_claims.specs.declared.claim.Claim.{Claim}

-- Whether two claims are of one field of one tree.
abbrev pub share_field : Claim → Claim → Bool
share_field c d = (c.tree == d.tree) && (c.field == d.field)

-- Whether the runs of two claims have a point in common.
abbrev pub share_point : Claim → Claim → Bool
share_point c d = nat_le (max c.first d.first) (min c.last d.last)

-- Two claims clash where two tasks of a launch use a common point of a field, and their privileges do not
-- agree.
abbrev pub clashes : Claim → Claim → Bool
clashes c d = share_field c d && (share_point c d
    && (not (c.task == d.task) && not (agree c.access d.access)))

-- Some two of the claims clash.
abbrev pub HasClash : List Claim → Type 0
HasClash claims = (c : Claim) × (d : Claim) × Contains claims c × Contains claims d × IsTrue (clashes c d)

-- The claims that records with lower numbers ask for.
abbrev pub asked_below : ℕ → List Claim → List Claim
asked_below number claims = filter (λ (c : Claim). nat_lt c.record number) claims

-- The record asks for a claim. Some two claims clash that records up to it ask for, and no two that records
-- below it ask for.
pub record IsFirstClash (claims : List Claim) (number : ℕ) : Type 0 where
  pub asks : (c : Claim) × Contains claims c × (c.record ≡ number)
  pub clash : HasClash (asked_below (number + 1) claims)
  pub first : ¬ HasClash (asked_below number claims)
