-- What two paths tell of the points that their spaces share.
use Rattle.std.specs.Prelude.{◌≡◌, ◌≢◌, ℕ, List, Contains, Option, IsTrue}
use Rattle.point_set.specs.Least.{IsLeastCommon}
use Rattle.log_tables.specs.declared.entries.Step.{Step}
use Rattle.log_tables.specs.Regions.{Regions, space_points}
use Rattle.region_tree.specs.Faults.{is_disjoint}
use Rattle.region_tree.specs.Paths.{Way, IsPath}

-- Two of the steps lead to two subspaces of one disjoint partition.
abbrev pub PartDisjoint : Regions → List Step → List Step → Type 0
PartDisjoint d xs ys = (x : Step) × (y : Step) × Contains xs x × Contains ys y × (x ≢ y) × (x.part ≡ y.part)
    × IsTrue (is_disjoint d x.part)

-- The least point that the spaces of both paths share.
abbrev pub IsLeastShared : Regions → Way → Way → Option ℕ → Type 0
IsLeastShared d a b o = (s t : ℕ) → IsPath d a s → IsPath d b t
    → IsLeastCommon (space_points d s) (space_points d t) o
