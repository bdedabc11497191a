-- Runs as rectangles of the first column.
use Rattle.std.proofs.Common.{ℕ, ◌^◌, ◌<◌, List, map, length, get_or, ap, arith}
use Rattle.std.proofs.lemmas.List.{length-map, get_or-map}
use Rattle.point_set.specs.declared.rect.Rect.{Rect}
use Rattle.point_set.specs.Rects.{AreRects, strip}

-- Their numbers are `u32`.
pub strip_fits : (runs : List (ℕ × ℕ)) (i : ℕ) (d : ℕ × ℕ) → AreRects (map strip runs) → i < length runs
    → ((get_or runs i d).0 < 2 ^ 32) × ((get_or runs i d).1 < 2 ^ 32)
strip_fits runs i d are lt =
    let within : i < length (map strip runs) = omega (arith, lt, length-map runs strip) in
    let is = get_or-map strip runs i d (strip d) lt in
    let up = are.0.some i (strip d) within in
    let low = ap (λ (r : Rect). r.y0) is in
    let high = ap (λ (r : Rect). r.y1) is in
    let small = are.1 i (strip d) within in
    (omega (arith, up.1, small.1, low, high), omega (arith, small.1, high))
