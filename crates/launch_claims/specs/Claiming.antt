-- What requirements claim in a launch.
use Rattle.std.specs.Prelude.{◌≡◌, ℕ, ◌^◌, ◌<◌, ◌≤◌, max, List, All, Contains, map}
use Rattle.std.specs.List.{flat_map}
use Rattle.point_set.specs.declared.rect.Rect.{Rect}
use Rattle.launch_claims.specs.declared.claim.Claim.{Claim}
use Rattle.launch_claims.specs.declared.requirement.LaunchTasks.{LaunchTasks}
use Rattle.launch_claims.specs.declared.requirement.Requirement.{Requirement}

-- These points lie in the first column.
abbrev pub AreInFirstColumn : List ℕ → Type 0
AreInFirstColumn points = All (λ p. p < 2 ^ 32) points

-- The first number at which a requirement, its points and a launch are all known.
abbrev pub time_of : {P : Type 0} → LaunchTasks → Requirement P → ℕ
time_of l r = max l.number (max r.record r.declared)

-- What a requirement claims of a field, but for the points.
abbrev pub claim_on : {P : Type 0} → LaunchTasks → Requirement P → ℕ → Claim
claim_on l r field = record {
  tree = r.tree;
  field = field;
  first = 0;
  last = 0;
  task = r.task;
  access =
      r.access;
  «record» = time_of l r;
}

-- The same claim on the rows of a rectangle.
abbrev pub rows_of : Claim → Rect → Claim
rows_of c r = record c { first = r.y0; last = r.y1 }

-- What a requirement claims, whose points are those of rectangles in the first column.
abbrev pub claims_by : {P : Type 0} → LaunchTasks → Requirement P → List Rect → List Claim
claims_by l r rects = flat_map (λ (field : ℕ). map (rows_of (claim_on l r field)) rects) r.fields.now

-- A claim of a requirement: on one of its fields, and on points of its set alone.
pub record IsClaimOf {P : Type 0} (points_of : P → List ℕ) (l : LaunchTasks) (r : Requirement P) (c : Claim)
    : Type 0 where
  pub field : ℕ
  pub rect : Rect
  pub has : Contains r.fields.now field
  pub is : rows_of (claim_on l r field) rect ≡ c
  pub points : (x : ℕ) → rect.y0 ≤ x → x ≤ rect.y1 → Contains (points_of r.set) x

-- Some claim of a requirement has a point of its set on a field.
pub record IsClaimed {P : Type 0} (l : LaunchTasks) (r : Requirement P) (field x : ℕ) (claims : List Claim)
    : Type 0 where
  pub rect : Rect
  pub claimed : Contains claims (rows_of (claim_on l r field) rect)
  pub low : rect.y0 ≤ x
  pub high : x ≤ rect.y1

-- These are claims of the requirements, and have each point of each set on each field.
pub record AreClaims {P : Type 0} (points_of : P → List ℕ) (l : LaunchTasks) (rs : List (Requirement P))
    (claims : List Claim) : Type 0 where
  pub sound : (c : Claim) → Contains claims c
      → (r : Requirement P) × Contains rs r × IsClaimOf points_of l r c
  pub whole : (r : Requirement P) (field x : ℕ) → Contains rs r → Contains r.fields.now field
      → Contains (points_of r.set) x → IsClaimed l r field x claims
