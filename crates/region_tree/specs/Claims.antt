-- Rectangles of points that subspaces claim.
use Rattle.std.specs.Prelude.{◌≡◌, ◌≢◌, ℕ, ◌+◌, ◌*◌, ◌^◌, ◌<◌, ◌≤◌, ◌++◌, max, min, nat_lt, nat_eq, if◌then◌else◌, cond, List, slice_get, AllPairs, Contains, filter, length, map, Option, Some, None, MatchOption, true}
use Rattle.std.specs.Borrow.{Bor}
use Rattle.std.specs.Option.{option_map_or}
use Rattle.point_set.specs.declared.rect.Rect.{Rect}
use Rattle.point_set.specs.Rects.{Holds}
use Rattle.overlaps.specs.declared.point.Point.{Point}
use Rattle.overlaps.specs.Meeting.{AreApart, AreApartAt}
use Rattle.plane_gaps.specs.Gaps.{IsRect}
use Rattle.arena_sets.specs.Pieces.{AreRectsOf}
use Rattle.region_tree.specs.declared.claims.Asked.{Asked}
use Rattle.region_tree.specs.declared.claims.Asked.TheVariants.{Apart, Within}
use Rattle.region_tree.specs.declared.claims.Claim.{Claim}
use Rattle.vocabulary.specs.Prelude.{Sub}
use Rattle.log_tables.specs.Regions.{Regions, space_points, whole_of}
use Rattle.region_tree.specs.Faults.{is_disjoint, MeetsEarlier}
use Rattle.region_tree.specs.Owners.{is_kept}
use Rattle.region_tree.specs.Wholes.{IsHeld, whole_at}

-- One more than the id of the space that a partition cuts, and 0 where none is declared.
abbrev pub whole_number : Regions → ℕ → ℕ
whole_number d part = option_map_or (λ id. id + 1) (whole_of d part) 0

-- The group for which a subspace claims its points, if any: its partition, if that is disjoint,
-- or all partitions that cut one space with its own.
abbrev pub group_of : Regions → Asked → Sub → Option ℕ
group_of d (Apart also) s = cond (is_disjoint d s.part) (Some s.part) None
group_of d Within s = Some (whole_number d s.part)

-- Subspace `i` has the point, and claims it for this group.
abbrev pub Claims : Regions → Asked → ℕ → ℕ → ℕ → Type 0
Claims d asked i group p = (s : Sub) × (slice_get d.subs i ≡ Some s) × (group_of d asked s ≡ Some group)
    × Contains (space_points d s.space) p

-- Subspace `i` claims nothing.
abbrev pub ClaimsNothing : Regions → Asked → ℕ → Type 0
ClaimsNothing d asked i = (group p : ℕ) → ¬ Claims d asked i group p

-- Subspace `i` claims just these points, for this group.
abbrev pub ClaimsAll : Regions → Asked → ℕ → ℕ → List ℕ → Type 0
ClaimsAll d asked i group points = (s : Sub) × (slice_get d.subs i ≡ Some s)
    × (group_of d asked s ≡ Some group) × (space_points d s.space ≡ points)

-- What subspace `i` claims, if anything: a group, with a set of just the points.
abbrev pub IsClaimOf : {P : Type 0} → (P → List ℕ) → Regions → Asked → ℕ → Option (ℕ × Bor P) → Type 0
IsClaimOf points d asked i o = MatchOption o (ClaimsNothing d asked i)
    (λ c. ClaimsAll d asked i c.0 (points c.1.now))

-- A rectangle that is claimed.
abbrev pub claim : ℕ → ℕ → Rect → Claim
claim group sub rect = record { group = group; sub = sub; rect = rect }

-- The new claims are the old ones, and then rectangles of just these points.
pub record AddsClaims (old new : List Claim) (group sub : ℕ) (points : List ℕ) : Type 0 where
  pub rects : List Rect
  pub added : new ≡ old ++ map (claim group sub) rects
  pub are : AreRectsOf points rects

-- Points of the subspace, which claims them for its group.
abbrev pub IsClaim : Regions → Asked → Claim → Type 0
IsClaim d asked c = (s : Sub) × (slice_get d.subs c.sub ≡ Some s) × (group_of d asked s ≡ Some c.group)
    × IsHeld (space_points d s.space) c.rect

-- Where the claims are of one subspace, they share no point.
abbrev pub AreOwn : Claim → Claim → Type 0
AreOwn a b = a.sub ≡ b.sub → AreApart a.rect b.rect

-- The claims of the subspaces before `n`.
pub record AreClaims (d : Regions) (asked : Asked) (n : ℕ) (claims : List Claim) : Type 0 where
  pub sound : (c : Claim) → Contains claims c → (c.sub < n) × IsClaim d asked c
  pub whole : (i group x y : ℕ) → i < n → y < 2 ^ 32 → Claims d asked i group (x * 2 ^ 32 + y)
      → (c : Claim) × Contains claims c × (c.sub ≡ i) × Holds c.rect x y
  pub rects : (c : Claim) → Contains claims c → IsRect c.rect
  pub own : AllPairs AreOwn claims

-- The first claim is for a lesser group, or for the same one with no greater first row.
abbrev pub IsBefore : Claim → Claim → Type 0
IsBefore a b = (a.group ≤ b.group) × (a.group ≡ b.group → a.rect.y0 ≤ b.rect.y0)

-- Each claim stands before the later ones.
abbrev pub AreInOrder : List Claim → Type 0
AreInOrder claims = AllPairs IsBefore claims

-- Claims in order, each with a point.
pub record AreReady (claims : List Claim) : Type 0 where
  pub order : AreInOrder claims
  pub rects : (c : Claim) → Contains claims c → IsRect c.rect
  pub own : AllPairs AreOwn claims

-- Claims for one group are of partitions that cut one space, or spaces with the same points.
abbrev pub HaveOneWhole : Regions → List Claim → Type 0
HaveOneWhole d claims = (a b : Claim) → Contains claims a → Contains claims b → a.group ≡ b.group
    → whole_at d a.sub ≡ whole_at d b.sub

-- The claims are for one group.
abbrev pub AreOfOneGroup : List Claim → Type 0
AreOfOneGroup claims = (a b : Claim) → Contains claims a → Contains claims b → a.group ≡ b.group

-- Claims cut into those for one group, of which there are some, and those for others.
pub record IsGroupCut (claims group behind : List Claim) : Type 0 where
  pub joined : claims ≡ group ++ behind
  pub one : AreOfOneGroup group
  pub others : (a b : Claim) → Contains group a → Contains behind b → a.group ≢ b.group
  pub shorter : length behind < length claims

-- The rectangles that the kept subspaces claim.
abbrev pub rects_kept : Asked → ℕ → List Claim → List Rect
rects_kept asked limit claims = map (λ (c : Claim). c.rect)
    (filter (λ (c : Claim). is_kept asked limit c.sub) claims)

-- No claims of two kept subspaces for one group share a point.
abbrev pub NoneOverlap : ℕ → ℕ → List Claim → Type 0
NoneOverlap also limit claims = (a b : Claim) → Contains claims a → Contains claims b
    → is_kept (Apart also) limit a.sub ≡ true → is_kept (Apart also) limit b.sub ≡ true
    → a.group ≡ b.group → a.sub ≢ b.sub → AreApart a.rect b.rect

-- No two rectangles of the kept claims have this point.
abbrev pub NoneShare : ℕ → ℕ → List Claim → Point → Type 0
NoneShare also limit claims p = AllPairs (AreApartAt p) (rects_kept (Apart also) limit claims)

-- No claim of a subspace before a limit has a point that the space which its partition cuts has not.
abbrev pub NoneLeave : Regions → ℕ → List Claim → Type 0
NoneLeave d limit claims = (c : Claim) → Contains claims c → is_kept Within limit c.sub ≡ true
    → IsHeld (whole_at d c.sub) c.rect

-- None of the subspaces that are looked at has the fault that is asked about.
abbrev pub NoneFails : Regions → Asked → ℕ → List Claim → Type 0
NoneFails d (Apart also) limit claims = NoneOverlap also limit claims
NoneFails d Within limit claims = NoneLeave d limit claims

-- A subspace before a limit such that up to it there is a fault, or `None` where there is none before the
-- limit.
abbrev pub IsFailing : Regions → Asked → ℕ → List Claim → Option ℕ → Type 0
IsFailing d asked limit claims o = MatchOption o (NoneFails d asked limit claims)
    (λ i. (i < limit) × ¬ NoneFails d asked (i + 1) claims)

-- Of two subspaces, the later one, or the other where that is not before a limit.
abbrev pub later_before : ℕ → ℕ → ℕ → ℕ
later_before limit i j = if nat_lt (max i j) limit then max i j else min i j

-- The last subspace that was found.
abbrev pub last_found : Option ℕ → Option ℕ → Option ℕ
last_found before (Some i) = Some i
last_found before None = before

-- The limit of what is looked at, once a subspace before it was found.
abbrev pub limit_by : Option ℕ → ℕ → ℕ
limit_by (Some i) limit = i
limit_by None limit = limit

-- The first subspace before `count` that, looked at with those before it, has the fault.
abbrev pub IsFirstFailing : Regions → List Claim → Asked → ℕ → Option ℕ → Type 0
IsFirstFailing d claims asked count o = MatchOption o (NoneFails d asked count claims)
    (λ i. (i < count) × NoneFails d asked i claims × ¬ NoneFails d asked (i + 1) claims)

-- No subspace before `limit` meets an earlier one.
abbrev pub NoneMeets : Regions → ℕ → Type 0
NoneMeets d limit = (i j : ℕ) → i < limit → ¬ MeetsEarlier d i j

-- Subspace `i` meets subspace `j`, which is an earlier one, and none before that.
pub record IsFirstMetBy (d : Regions) (i j : ℕ) : Type 0 where
  pub earlier : j < i
  pub before : (k : ℕ) → k < j → ¬ MeetsEarlier d i k
  pub meets : ¬ ¬ MeetsEarlier d i j

-- The first subspace that meets an earlier one, with the first one that it meets,
-- or `None` where there is none.
abbrev pub IsFirstMeeting : Regions → Option (ℕ × ℕ) → Type 0
IsFirstMeeting d o = MatchOption o ((i j : ℕ) → ¬ MeetsEarlier d i j)
    (λ met. NoneMeets d met.0 × IsFirstMetBy d met.0 met.1)

-- What subspace `i` meets, if anything: the first earlier one.
abbrev pub IsMet : Regions → ℕ → Option ℕ → Type 0
IsMet d i o = MatchOption o ((j : ℕ) → ¬ MeetsEarlier d i j) (IsFirstMetBy d i)

-- What the first meeting says of subspace `i`.
abbrev pub met_by : Option (ℕ × ℕ) → ℕ → Option ℕ
met_by (Some met) i = cond (nat_eq met.0 i) (Some met.1) None
met_by None i = None
