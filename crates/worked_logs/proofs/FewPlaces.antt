-- The limits on points, cells and accesses, each reached by one record.
use Rattle.std.proofs.Common.{◌≡◌, ℕ, ◌+◌, ◌*◌, ◌-◌, ◌≤◌, ◌<◌, nat_lt, false, List, [], ◌∷◌, length, sum_by, refl, ap, ap₂, ◌∙◌, arith, append-nil, None, Some}
use Rattle.std.specs.List.{range_with_len}
use Rattle.std.proofs.lemmas.Bool.{le-ltb, lt-ltb}
use Rattle.std.proofs.lemmas.List.FromFn.{length-range_with_len}
use Rattle.spy_grammar.specs.declared.code.Code.TheVariants as codes
use Rattle.vocabulary.specs.Prelude.{lined, points_of, grid}
use Rattle.semantics.specs.declared.command.Command.TheVariants.{Check}
use Rattle.semantics.specs.Faults.{at_line, log_fault}
use Rattle.semantics.specs.Computed.{logs_computed}
use Rattle.worked_logs.specs.WorkedLimits.{of_points, of_cells, of_accesses, plane_accesses, plane_cells}
use Rattle.worked_logs.proofs.Lists.{within_itself}

-- The points of a space of so many, and how many points and fields there are together.
abbrev pub points_up_to : ℕ → List ℕ
points_up_to points = points_of ((1, points) ∷ [])

abbrev size : ℕ → ℕ → ℕ
size points fields = length (points_up_to points) * length (range_with_len 1 fields)

pub point_count : (points : ℕ) → length (points_up_to points) ≡ points
point_count points =
    let e : points + 1 - 1 ≡ points = omega arith in
    ap length (append-nil (range_with_len 1 (points + 1 - 1))) ∙ length-range_with_len 1 (points + 1 - 1) ∙ e

size_is : (points fields : ℕ) → size points fields ≡ points * fields
size_is points fields = ap₂ (λ a b. a * b) (point_count points) (length-range_with_len 1 fields)

pub few_points : (points : ℕ) → points ≤ 1048576 → nat_lt 1048576 (0 + length (points_up_to points)) ≡ false
few_points points few =
    let n = point_count points in
    le-ltb 1048576 (0 + length (points_up_to points)) (omega (arith, few, n))

-- ---- Points.

pub points_kept : (points : ℕ) → points ≤ 1048576 → log_fault Check 3 (lined (of_points points)) ≡ None
unfolding logs_computed
points_kept points few = rw (few_points points few) refl

pub points_broken : (points : ℕ) → 1048576 < points
    → log_fault Check 3 (lined (of_points points)) ≡ Some (at_line codes.TooManyPoints 2)
unfolding logs_computed
points_broken points many =
    let n = point_count points in
    rw (lt-ltb 1048576 (0 + length (points_up_to points)) (omega (arith, many, n))) refl

-- ---- Cells. The rules at the instance compare its points with themselves, and its fields. There is no load.

no_load : (places : List (ℕ × ℕ)) → sum_by (λ p. 0) places ≡ 0
no_load [] = refl
no_load (p ∷ places) = no_load places

pub cells_kept : (points fields : ℕ) → points ≤ 1048576 → points * fields ≤ 1048576
    → log_fault Check 6 (lined (of_cells points fields)) ≡ None
unfolding logs_computed
cells_kept points fields few fits =
    let n = size_is points fields in
    let places = grid (points_up_to points) (range_with_len 1 fields) in
    let unloaded = no_load places in
    rw (
      few_points points few,
      within_itself (range_with_len 1 fields),
      within_itself (points_up_to points),
      le-ltb 1048576 (0 + size points fields) (omega (arith, fits, n)),
      le-ltb 67108864 (0 + sum_by (λ (p : ℕ × ℕ). 0) places) (omega (arith, unloaded)),
    ) refl

pub cells_broken : (points fields : ℕ) → points ≤ 1048576 → 1048576 < points * fields
    → log_fault Check 6 (lined (of_cells points fields)) ≡ Some (at_line codes.TooManyCells 5)
unfolding logs_computed
cells_broken points fields few many =
    let n = size_is points fields in
    rw (
      few_points points few,
      within_itself (range_with_len 1 fields),
      within_itself (points_up_to points),
      lt-ltb 1048576 (0 + size points fields) (omega (arith, many, n)),
    ) refl

-- ---- Accesses.

pub accesses_kept : (points fields : ℕ) → points ≤ 1048576 → points * fields ≤ 4194304
    → log_fault Check 6 (lined (of_accesses points fields)) ≡ None
unfolding logs_computed
accesses_kept points fields few fits =
    let n = size_is points fields in
    rw (
      few_points points few,
      within_itself (range_with_len 1 fields),
      le-ltb 4194304 (0 + size points fields) (omega (arith, fits, n)),
      le-ltb 4194304 (0 + size points fields + 0) (omega (arith, fits, n)),
    ) refl

pub accesses_broken : (points fields : ℕ) → points ≤ 1048576 → 4194304 < points * fields
    → log_fault Check 6 (lined (of_accesses points fields)) ≡ Some (at_line codes.TooManyAccesses 5)
unfolding logs_computed
accesses_broken points fields few many =
    let n = size_is points fields in
    rw (
      few_points points few,
      within_itself (range_with_len 1 fields),
      lt-ltb 4194304 (0 + size points fields) (omega (arith, many, n)),
    ) refl

-- ---- One rectangle in a log of the second version: of its nine points, or its one, the first alone is counted.

load_free : (places : List (ℕ × ℕ)) → nat_lt 67108864 (0 + sum_by (λ (p : ℕ × ℕ). 0) places) ≡ false
load_free places = let none = no_load places in le-ltb 67108864 (0 + sum_by (λ (p : ℕ × ℕ). 0) places) (omega (arith, none))

pub plane_cells_kept : (fields : ℕ) → fields ≤ 1048576 → log_fault Check 6 (lined (plane_cells 2 fields)) ≡ None
unfolding logs_computed
plane_cells_kept fields fits =
    let n = length-range_with_len 1 fields in
    let all = range_with_len 1 fields in
    rw (
      within_itself all,
      le-ltb 1048576 (0 + 1 * length all) (omega (arith, fits, n)),
      load_free (grid (0 ∷ []) all),
    ) refl

pub plane_cells_broken : (fields : ℕ) → 1048576 < fields
    → log_fault Check 6 (lined (plane_cells 0 fields)) ≡ Some (at_line codes.TooManyCells 6)
unfolding logs_computed
plane_cells_broken fields many =
    let n = length-range_with_len 1 fields in
    let all = range_with_len 1 fields in
    rw (within_itself all, lt-ltb 1048576 (0 + 1 * length all) (omega (arith, many, n))) refl

pub plane_accesses_kept : (fields : ℕ) → fields ≤ 4194304 → log_fault Check 6 (lined (plane_accesses 2 fields)) ≡ None
unfolding logs_computed
plane_accesses_kept fields fits =
    let n = length-range_with_len 1 fields in
    let all = range_with_len 1 fields in
    rw (within_itself all, le-ltb 4194304 (0 + 1 * length all + 0) (omega (arith, fits, n))) refl

pub plane_accesses_broken : (fields : ℕ) → 4194304 < fields
    → log_fault Check 6 (lined (plane_accesses 0 fields)) ≡ Some (at_line codes.TooManyAccesses 6)
unfolding logs_computed
plane_accesses_broken fields many =
    let n = length-range_with_len 1 fields in
    let all = range_with_len 1 fields in
    rw (within_itself all, lt-ltb 4194304 (0 + 1 * length all + 0) (omega (arith, many, n))) refl
