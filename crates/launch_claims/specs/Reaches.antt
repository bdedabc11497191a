-- How far claims of a field reach, in the order of their first points.
use Rattle.std.specs.Prelude.{◌≡◌, ◌≢◌, ℕ, ◌+◌, ◌≤◌, max, Bool, true, false, List, [], ◌∷◌, ◌++◌, ◌↔◌, AllPairs, Contains, Option, Some, None, IsTrue, MatchOption}
use Rattle.privilege.specs.Interference.{agree}
use Rattle.launch_claims.specs.declared.claim.Claim.{Claim}
use Rattle.launch_claims.specs.declared.reach.Reach.{Reach}
use Rattle.launch_claims.specs.Claims.{share_field, clashes, HasClash, asked_below}

-- The first claim is of the field of the second, or of an earlier one: trees come in ascending order, and in
-- each its fields.
pub record IsFieldBefore (c d : Claim) : Type 0 where
  pub tree : c.tree ≤ d.tree
  pub field : c.tree ≡ d.tree → c.field ≤ d.field

-- Fields come in order, and within a field first points do.
pub record IsBefore (c d : Claim) : Type 0 where
  pub fields : IsFieldBefore c d
  pub points : IsTrue (share_field c d) → c.first ≤ d.first

-- Each claim stands before the later ones.
abbrev pub AreInOrder : List Claim → Type 0
AreInOrder claims = AllPairs IsBefore claims

-- The claim stands behind all of these.
abbrev pub IsBehind : List Claim → Claim → Type 0
IsBehind seen d = (c : Claim) → Contains seen c → IsBefore c d

-- One of these clashes with the claim.
abbrev pub ClashesWithSome : List Claim → Claim → Type 0
ClashesWithSome seen d = (c : Claim) × Contains seen c × IsTrue (clashes c d)

-- The second claim is of the field of the first, and not of its task.
abbrev pub IsOfOtherTask : Claim → Claim → Type 0
IsOfOtherTask d c = IsTrue (share_field c d) × (c.task ≢ d.task)

-- The second claim is of the field of the first, and its privilege does not agree with that of the first.
abbrev pub IsOfOtherAccess : Claim → Claim → Type 0
IsOfOtherAccess d c = IsTrue (share_field c d) × (agree c.access d.access ≡ false)

-- The last point that those of these claims reach that pass a test.
abbrev pub IsReachOf : (Claim → Type 0) → List Claim → Option ℕ → Type 0
IsReachOf P seen o =
    MatchOption o ((c : Claim) → Contains seen c → ¬ P c)
    (λ last. ((c : Claim) × Contains seen c × P c × (c.last ≡ last))
    × ((c : Claim) → Contains seen c → P c → c.last ≤ last))

-- What a reach tells of claims that stand in order: which of those of the last field reaches furthest, and
-- how far those of them reach that are not of its task, or whose privilege does not agree with its.
pub record Measures (r : Reach) (seen : List Claim) : Type 0 where
  pub found : Contains seen r.furthest
  pub latest : (c : Claim) → Contains seen c → IsFieldBefore c r.furthest
  pub furthest : (c : Claim) → Contains seen c → IsTrue (share_field c r.furthest) → c.last ≤ r.furthest.last
  pub tasks : IsReachOf (IsOfOtherTask r.furthest) seen r.other_tasks
  pub accesses : agree r.furthest.access r.furthest.access ≡ true
      → IsReachOf (IsOfOtherAccess r.furthest) seen r.other_accesses

-- The same, or that there are no claims.
abbrev pub MeasuresSoFar : Option Reach → List Claim → Type 0
MeasuresSoFar o seen = MatchOption o ((c : Claim) → ¬ Contains seen c) (λ r. Measures r seen)

-- None of these claims is of the field of this one.
abbrev pub HasNoneOfField : Claim → List Claim → Type 0
HasNoneOfField d seen = (c : Claim) → Contains seen c → share_field c d ≡ false

-- Whatever claims the reach measures: how far those of them reach that pass a test.
abbrev pub TellsReachOf : (Claim → Type 0) → Reach → Option ℕ → Type 0
TellsReachOf P r o = (seen : List Claim) → Measures r seen → IsReachOf P seen o

-- Of all claims of which something is known, of which no two clash and behind which this one stands: whether
-- one of them clashes with it.
abbrev pub JudgesNext : (List Claim → Type 0) → Claim → Bool → Type 0
JudgesNext Known d told = (seen : List Claim) → Known seen → IsBehind seen d → ¬ HasClash seen
    → (IsTrue told ↔ ClashesWithSome seen d)

-- Of all claims of which something is known and behind which this one stands: how far they reach with this
-- one.
abbrev pub MeasuresNext : (List Claim → Type 0) → Claim → Reach → Type 0
MeasuresNext Known d r = (seen : List Claim) → Known seen → IsBehind seen d → Measures r (seen ++ d ∷ [])

-- There are claims that reach so far, and they reach the point.
abbrev pub IsAsFar : Option ℕ → ℕ → Type 0
IsAsFar o point = MatchOption o ⊥ (λ last. point ≤ last)

-- How far claims reach with one more that reaches to a point, if it counts.
abbrev pub counted : Option ℕ → Bool → ℕ → Option ℕ
counted o false point = o
counted (Some last) true point = Some (max last point)
counted None true point = Some point

-- With the claims of the record of this number the claims up to it clash, and without them they do not.
abbrev pub StartsClash : List Claim → ℕ → Type 0
StartsClash claims number = HasClash (asked_below (number + 1) claims)
    × (¬ HasClash (asked_below number claims))

-- The least such number, of those up to `most`.
abbrev pub IsFirstUpTo : List Claim → ℕ → Option ℕ → Type 0
IsFirstUpTo claims most o = MatchOption o (¬ HasClash (asked_below (most + 1) claims)) (StartsClash claims)
