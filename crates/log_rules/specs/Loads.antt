-- How many requirements reduce at places.
use Rattle.std.specs.Prelude.{◌≡◌, ℕ, ◌+◌, ◌==◌, Bool, true, false, ◌&&◌, List, filter, length, unwrap_or, if◌then◌else◌, sum_by, Option, MatchOption}
use Rattle.std.specs.Borrow.{Bor}
use Rattle.std.specs.HashMap.{get}
use Rattle.vocabulary.specs.Prelude.{Place, Req, Inst, Tables, is_in, same_place}
use Rattle.semantics.specs.Rules.{is_planar, points_counted, reduces}
use Rattle.log_rules.specs.declared.load.Loads.{Loads}
use Rattle.log_limits.specs.declared.corners.Corners.{Corners}
use Rattle.log_limits.specs.Corners.{corners_of}
use Rattle.log_limits.specs.Sums.{cut}

-- The count that is kept of a place.
abbrev pub load_in : Loads → Place → ℕ
load_in l k = unwrap_or (get same_place l.counts k) 0

-- One where a test passes, and else nothing.
abbrev pub one : Bool → ℕ
one b = if b then 1 else 0

-- Whether a place is in this tree, at one of these points and one of these fields.
abbrev pub is_held : ℕ → List ℕ → List ℕ → Place → Bool
is_held tree points fields k = (tree == k.tree) && (is_in points k.point && is_in fields k.field)

-- Whether a requirement is at a place whose point is counted.
abbrev pub counts_at : Tables → Place → Req → Bool
counts_at t k r = is_held r.tree (points_counted t r.space) r.fields k

-- How many of some requirements reduce at a place and are counted there.
abbrev pub load_at : Tables → Place → List Req → ℕ
load_at t k rs = length (filter (λ (r : Req). reduces r.access && counts_at t k r) rs)

-- The counts of a point and some fields together.
abbrev pub row_load : (Place → ℕ) → ℕ → List ℕ → ℕ → ℕ
row_load count tree fields point = sum_by
    (λ f. count (record { tree = tree; point = point; field = f })) fields

-- The counts of some points and fields together.
abbrev pub grid_load : (Place → ℕ) → ℕ → List ℕ → List ℕ → ℕ
grid_load count tree fields points = sum_by (row_load count tree fields) points

-- The counts of an instance's cells together.
abbrev pub inst_load : (Place → ℕ) → Tables → Inst → ℕ
inst_load count t i = grid_load count i.tree i.fields (points_counted t i.space)

-- One requirement more is counted at the places that pass a test, and none at the others.
abbrev pub CountsAt : Loads → Loads → (Place → Bool) → Type 0
CountsAt old new test = (k : Place) → cut (load_in new k) ≡ cut (load_in old k + one (test k))

-- The counts are those of these requirements.
abbrev pub AreLoads : Tables → Loads → List Req → Type 0
AreLoads t loads rs = (k : Place) → cut (load_in loads k) ≡ cut (load_at t k rs)

-- In a log of the second version points are counted by where cells begin, and in one of the first all are.
abbrev pub CountsBy : Tables → Option (Bor Corners) → Type 0
CountsBy t corners = MatchOption corners (is_planar t ≡ false)
    (λ (c : Bor Corners). (is_planar t ≡ true) × (c.now ≡ corners_of t))
