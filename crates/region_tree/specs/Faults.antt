-- What is wrong with a subspace.
use Rattle.std.specs.Prelude.{◌≡◌, ℕ, ◌<◌, Bool, false, ◌⊎◌, List, [], slice_get, Contains, Some, None, IsTrue, ⊤}
use Rattle.std.specs.Option.{option_map_or}
use Rattle.point_set.specs.Least.{IsLeast}
use Rattle.vocabulary.specs.Prelude.{Sub}
use Rattle.region_tree.specs.declared.forest_fault.ForestFault.{ForestFault}
use Rattle.region_tree.specs.declared.forest_fault.ForestFault.TheVariants.{NotWithin, NotDisjoint, Memory}
use Rattle.log_tables.specs.Regions.{Regions, part_of, whole_of, space_points}

-- The points of the space that a partition cuts.
abbrev pub points_cut : Regions → ℕ → List ℕ
points_cut d part = option_map_or (space_points d) (whole_of d part) []

-- Whether the partition is declared disjoint.
abbrev pub is_disjoint : Regions → ℕ → Bool
is_disjoint d part = option_map_or (λ p. p.disjoint) (part_of d part) false

-- Subspace `i` has the point, and the space that its partition cuts has not.
abbrev pub IsOutside : Regions → ℕ → ℕ → Type 0
IsOutside d i point = (s : Sub) × (slice_get d.subs i ≡ Some s) × Contains (space_points d s.space) point
    × ¬ Contains (points_cut d s.part) point

-- Both are subspaces of one disjoint partition, and have the point.
abbrev pub Clashes : Regions → Sub → Sub → ℕ → Type 0
Clashes d s t point = (s.part ≡ t.part) × IsTrue (is_disjoint d s.part)
    × Contains (space_points d s.space) point × Contains (space_points d t.space) point

-- Subspace `i` clashes with the earlier one `j` at the point.
abbrev pub Meets : Regions → ℕ → ℕ → ℕ → Type 0
Meets d i j point = (s : Sub) × (t : Sub) × (j < i) × (slice_get d.subs i ≡ Some s)
    × (slice_get d.subs j ≡ Some t) × Clashes d s t point

-- Subspace `i` clashes with the earlier one `j` somewhere.
abbrev pub MeetsEarlier : Regions → ℕ → ℕ → Type 0
MeetsEarlier d i j = (point : ℕ) × Meets d i j point

-- Subspace `i` is not within the space that its partition cuts, or meets an earlier subspace of its disjoint
-- partition.
abbrev pub IsFaulty : Regions → ℕ → Type 0
IsFaulty d i = ((point : ℕ) × IsOutside d i point) ⊎ ((j : ℕ) × MeetsEarlier d i j)

-- Subspace `i` is faulty, and none before it is.
abbrev pub IsFirstFault : Regions → ℕ → Type 0
IsFirstFault d i = IsFaulty d i × ((k : ℕ) → k < i → ¬ IsFaulty d k)

-- What the refusal of a subspace shows: which way it is faulty, and the least point.
abbrev pub Shows : Regions → ℕ → ForestFault → Type 0
Shows d i (NotWithin sub point) = (sub ≡ i) × IsLeast (IsOutside d i) (Some point)
Shows d i (NotDisjoint sub other point) =
    (sub ≡ i) × IsLeast (IsOutside d i) None × IsLeast (MeetsEarlier d i) (Some other)
    × IsLeast (Meets d i other) (Some point)
Shows d i Memory = ⊤

-- The first fault is of the first way, and this is the least point outside.
abbrev pub FirstNotWithin : Regions → ℕ → ℕ → Type 0
FirstNotWithin d sub point = IsFirstFault d sub × IsLeast (IsOutside d sub) (Some point)

-- The first fault is of the second way alone; `other` is the least earlier subspace that is met, and this the
-- least point that the two share.
abbrev pub FirstNotDisjoint : Regions → ℕ → ℕ → ℕ → Type 0
FirstNotDisjoint d sub other point =
    IsFirstFault d sub × IsLeast (IsOutside d sub) None × IsLeast (MeetsEarlier d sub) (Some other)
    × IsLeast (Meets d sub other) (Some point)

-- What the refusal of declarations shows.
abbrev pub ShowsFirst : Regions → ForestFault → Type 0
ShowsFirst d (NotWithin sub point) = FirstNotWithin d sub point
ShowsFirst d (NotDisjoint sub other point) = FirstNotDisjoint d sub other point
ShowsFirst d Memory = ⊤
