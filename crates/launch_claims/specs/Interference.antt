-- When requirements of tasks of a launch interfere.
use Rattle.std.specs.Prelude.{◌≡◌, ◌≢◌, ℕ, ◌<◌, ◌≤◌, min, true, false, List, Contains, Option, Some, None, MatchOption}
use Rattle.privilege.specs.Interference.{agree}
use Rattle.launch_claims.specs.declared.requirement.LaunchTasks.{LaunchTasks}
use Rattle.launch_claims.specs.declared.requirement.Requirement.{Requirement}

-- Whether a task is one of a launch.
abbrev pub IsTaskOf : LaunchTasks → ℕ → Type 0
IsTaskOf l id = (l.base ≤ id) × (id < l.end)

-- Two lists have a number in common.
abbrev pub ShareNumber : List ℕ → List ℕ → Type 0
ShareNumber ns ms = (n : ℕ) × Contains ns n × Contains ms n

-- Two tasks use a common point of a field of a tree, and their privileges do not agree. Each set has its
-- points.
pub record Conflict {P : Type 0} (points_of : P → List ℕ) (u v : Requirement P) : Type 0 where
  pub tasks : u.task ≢ v.task
  pub tree : u.tree ≡ v.tree
  pub fields : ShareNumber u.fields.now v.fields.now
  pub points : ShareNumber (points_of u.set) (points_of v.set)
  pub accesses : agree u.access v.access ≡ false

-- The record of this number asks for the first requirement, the second is asked for by then, and the launch
-- and all points are known before it.
pub record IsKnownAt {P : Type 0} (l : LaunchTasks) (n : ℕ) (u v : Requirement P) : Type 0 where
  pub launched : l.number < n
  pub asks : u.record ≡ n
  pub declared : u.declared < n
  pub others : v.record ≤ n
  pub others_declared : v.declared < n

-- At the record of this number, some requirement that it asks for is in conflict with one that is asked for
-- by then.
abbrev pub InterferesIn : {P : Type 0} → (P → List ℕ) → LaunchTasks → List (Requirement P) → ℕ → Type 0
InterferesIn {P} points_of l reqs n =
    (u : Requirement P) × (v : Requirement P) × Contains reqs u × Contains reqs v
    × IsKnownAt l n u v × Conflict points_of u v

-- The privileges of any two of these requirements agree.
abbrev pub AllAgree : {P : Type 0} → List (Requirement P) → Type 0
AllAgree {P} reqs = (u v : Requirement P) → Contains reqs u → Contains reqs v → agree u.access v.access ≡ true

-- The requirements of the tasks of a launch.
abbrev pub IsOfLaunch : {P : Type 0} → LaunchTasks → List (Requirement P) → Requirement P → Type 0
IsOfLaunch l reqs u = Contains reqs u × IsTaskOf l u.task

-- At the record of this number, some requirement that it asks for interferes with that of another task of a
-- launch.
abbrev pub InterferesAt : {P : Type 0} → (P → List ℕ) → List LaunchTasks → List (Requirement P) → ℕ → Type 0
InterferesAt {P} points_of launches reqs n =
    (l : LaunchTasks) × Contains launches l
    × ((u : Requirement P) × (v : Requirement P) × IsOfLaunch l reqs u × IsOfLaunch l reqs v
    × IsKnownAt l n u v × Conflict points_of u v)

-- The least number with a property, if there is one.
abbrev pub IsLeast : (ℕ → Type 0) → Option ℕ → Type 0
IsLeast P o = MatchOption o ((n : ℕ) → ¬ P n) (λ m. P m × ((n : ℕ) → P n → m ≤ n))

-- A number, or the lesser of two where there is another.
abbrev pub least_with : ℕ → Option ℕ → ℕ
least_with n None = n
least_with n (Some m) = min n m

-- The lesser of two numbers, each of which may be missing.
abbrev pub lesser : Option ℕ → Option ℕ → Option ℕ
lesser None o = o
lesser (Some n) o = Some (least_with n o)
