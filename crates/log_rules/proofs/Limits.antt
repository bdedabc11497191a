-- Sums that are counted, and their limits.
use Rattle.std.proofs.Common.{◌≡◌, ℕ, Bool, ◌+◌, ◌-◌, ◌<◌, List, [], ◌∷◌, ◌++◌, ◌≤◌, min, map, filter, take, length, get_or, inl, inr, refl, sym, ap, ◌∙◌, arith, sum_by}
use Rattle.std.specs.List.{range_with_len}
use Rattle.std.proofs.lemmas.List.{length-append, length-map, get_or-map, take_all, take_more}
use Rattle.std.proofs.lemmas.List.FromFn.{length-range_with_len}
use Rattle.std.proofs.lemmas.Bool.{cases_Bool}
use Rattle.std.proofs.lemmas.List.Sums.{sum_by-cons}
use Rattle.vocabulary.specs.Prelude.{Quad, Req, Tables, may_read, rect_of, plane_points, points_of}
use Rattle.semantics.specs.Rules.{size_of}
use Rattle.log_rules.specs.Counts.{reads_of}
use Rattle.point_set.specs.Rects.{AreRects}
use Rattle.point_set.proofs.lemmas.Counted.{area, areas, areas_more, counted}

pub cut-both : (a b m : ℕ) → min (a + min b m) m ≡ min (a + b) m
cut-both a b m = omega arith

points_of-snoc : (runs : List (ℕ × ℕ)) (r : ℕ × ℕ) → length (points_of (runs ++ r ∷ [])) ≡ length (points_of runs) + (r.1 + 1 - r.0)
points_of-snoc [] r =
    let h = length-append (range_with_len r.0 (r.1 + 1 - r.0)) [] in
    let n = length-range_with_len r.0 (r.1 + 1 - r.0) in
    omega (arith, h, n)
points_of-snoc (s ∷ runs) r =
    let first : List ℕ = range_with_len s.0 (s.1 + 1 - s.0) in
    let h = length-append first (points_of (runs ++ r ∷ [])) in
    let g = length-append first (points_of runs) in
    let rest = points_of-snoc runs r in
    omega (arith, h, g, rest)

pub points_of_more : (runs : List (ℕ × ℕ)) (i : ℕ) (d : ℕ × ℕ) → i < length runs
    → length (points_of (take (i + 1) runs)) ≡ length (points_of (take i runs)) + ((get_or runs i d).1 + 1 - (get_or runs i d).0)
points_of_more runs i d lt = ap (λ (xs : List (ℕ × ℕ)). length (points_of xs)) (take_more runs i d lt)
    ∙ points_of-snoc (take i runs) (get_or runs i d)

-- The areas of rectangles, with one more.
pub area_more : (quads : List Quad) (i : ℕ) (d : Quad) → i < length quads
    → areas (take (i + 1) (map rect_of quads)) ≡ areas (take i (map rect_of quads)) + area (rect_of (get_or quads i d))
area_more quads i d lt =
    let rects = map rect_of quads in
    let within : i < length rects = omega (arith, lt, length-map quads rect_of) in
    areas_more rects i within ∙ ap (λ r. areas (take i rects) + area r) (get_or-map rect_of quads i d _ lt)

-- Those of all are how many points they have.
pub area_told : (quads : List Quad) (n : ℕ) → AreRects (map rect_of quads) → length quads ≤ n
    → areas (take n (map rect_of quads)) ≡ length (plane_points quads)
area_told quads n are le =
    ap areas (take_all n (map rect_of quads) (omega (arith, le, length-map quads rect_of))) ∙ sym (counted (map rect_of quads) are.0.some)

-- The reads of some requirements, where each that reads counts.
pub reads_told : (t : Tables) (rs : List Req)
    → sum_by (λ (r : Req). size_of t r.space r.fields) (filter (λ (r : Req). may_read r.access) rs) ≡ sum_by (reads_of t) rs
reads_told t [] = refl
reads_told t (r ∷ rs) =
    let size : Req → ℕ = λ r. size_of t r.space r.fields in
    let reads : Req → Bool = λ r. may_read r.access in
    let rest : sum_by size (filter reads rs) ≡ sum_by (reads_of t) rs = reads_told t rs in
    let all = sum_by-cons (reads_of t) r rs in
    elim (cases_Bool (may_read r.access)) [
      | inl reading ↦
          let here : reads_of t r ≡ size r = rw reading refl in
          let more : sum_by size (filter reads (r ∷ rs)) ≡ size r + sum_by size (filter reads rs) = rw reading (sum_by-cons size r (filter reads rs)) in
          more ∙ ap (λ n. n + sum_by size (filter reads rs)) (sym here) ∙ ap (λ n. reads_of t r + n) rest ∙ sym all
      | inr other ↦
          let here : reads_of t r ≡ 0 = rw other refl in
          let less : sum_by size (filter reads (r ∷ rs)) ≡ sum_by size (filter reads rs) = rw other refl in
          omega (arith, less, rest, all, here)
    ]
