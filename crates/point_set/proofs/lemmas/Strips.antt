-- Runs as rectangles of the first column.
use Rattle.std.proofs.Common.{◌≡◌, ℕ, ◌+◌, ◌-◌, ◌*◌, ◌^◌, List, [], ◌∷◌, ◌++◌, map, refl, ap, ◌∙◌, arith}
use Rattle.std.specs.List.{range_with_len, flat_map}
use Rattle.std.proofs.lemmas.List.{append-nil}
use Rattle.point_set.specs.Rects.{column_points, columns_end, rect_points, strip}
use Rattle.point_set.specs.Runs.{run_points, points_of}

one_strip : (run : ℕ × ℕ) → column_points 0 (strip run) ≡ run_points run
one_strip run = let e : 0 * 2 ^ 32 + run.0 ≡ run.0 = omega arith in ap (λ a. range_with_len a (run.1 + 1 - run.0)) e

all_strips : (runs : List (ℕ × ℕ)) → flat_map (column_points 0) (map strip runs) ≡ points_of runs
all_strips [] = refl
all_strips (run ∷ runs) = ap (λ ps. ps ++ flat_map (column_points 0) (map strip runs)) (one_strip run)
    ∙ ap (λ ps. run_points run ++ ps) (all_strips runs)

one_column : (run : ℕ × ℕ) (runs : List (ℕ × ℕ)) → columns_end (map strip (run ∷ runs)) ≡ 1
one_column run [] = refl
one_column run (next ∷ runs) = let more = one_column next runs in omega (arith, more)

pub strips : (runs : List (ℕ × ℕ)) → rect_points (map strip runs) ≡ points_of runs
strips [] = refl
strips (run ∷ runs) =
    ap (λ n. flat_map (λ x. flat_map (column_points x) (map strip (run ∷ runs))) (range_with_len 0 n)) (one_column run runs)
    ∙ append-nil (flat_map (column_points 0) (map strip (run ∷ runs))) ∙ all_strips (run ∷ runs)
