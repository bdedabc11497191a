-- What a space leaves free, and rectangles that are held against it.
use Rattle.std.proofs.Common.{◌≡◌, ℕ, ◌+◌, ◌*◌, ◌<◌, ◌≤◌, ◌^◌, nat_le, true, Bool, List, [], Option, Some, None, MatchOption, get_or, All, AllPairs, Contains, sym, subst, inl, inr, arith}
use Rattle.std.specs.List.Sorted.{IsPermutation}
use Rattle.std.proofs.lemmas.Bool.{le-leb}
use Rattle.std.proofs.lemmas.List.Elements.{All-contains, Contains-get_or}
use Rattle.std.proofs.lemmas.List.Sorted.{Contains-permutation, IsPermutation-sym}
use Rattle.list_lemmas.proofs.lemmas.Filtered.{in_filter, of_filter}
use Rattle.point_set.specs.declared.rect.Rect.{Rect}
use Rattle.point_set.specs.Rects.{AreSmall, rect_at}
use Rattle.point_set.proofs.lemmas.Ahead.{in_or_not}
use Rattle.point_set.proofs.lemmas.Columns.{has_at}
use Rattle.overlaps.specs.declared.point.Point.{Point}
use Rattle.overlaps.specs.Between.{AreApartFrom, IsCommon}
use Rattle.overlaps.specs.Meeting.{IsNoHigher}
use Rattle.plane_gaps.specs.Gaps.{HasPoint, LeaveFree}
use Rattle.arena_sets.specs.Pieces.{AreRectsOf}
use Rattle.region_tree.specs.Wholes.{AreGaps, IsPointOutside, near}
use Rattle.region_tree.proofs.Claiming.{held}

-- ---- What is left free.

of_points : (points : List ℕ) (rects : List Rect) (x y : ℕ) → AreRectsOf points rects → y < 2 ^ 32
    → Contains points (x * 2 ^ 32 + y) → HasPoint rects x y
of_points points rects x y are fits h =
    let at = has_at rects x y are.0.1 fits (subst (λ ps. Contains ps (x * 2 ^ 32 + y)) (sym are.1) h) in
    (rect_at rects at.place, Contains-get_or rects at.place (record { x0 = 0; x1 = 0; y0 = 0; y1 = 0 }) at.within, at.holds)

to_points : (points : List ℕ) (rects : List Rect) (x y : ℕ) → AreRectsOf points rects → HasPoint rects x y
    → Contains points (x * 2 ^ 32 + y)
to_points points rects x y are h = subst (λ ps. Contains ps (x * 2 ^ 32 + y)) are.1 (held rects h.0 x y h.1 h.2)

pub gaps_told : (points : List ℕ) (last : ℕ) (rects gaps some sorted : List Rect) → last < 2 ^ 32 → AreRectsOf points rects
    → LeaveFree rects gaps → some ≡ near last gaps → IsPermutation some sorted → AllPairs IsNoHigher sorted
    → AreGaps points last sorted
gaps_told points last rects gaps some sorted fits are free is perm order =
    let p : Rect → Bool = λ (r : Rect). nat_le r.x0 last in
    let back : (r : Rect) → Contains sorted r → Contains gaps r = λ r h.
    let in_some = Contains-permutation sorted some r (IsPermutation-sym some sorted perm) h in
    (of_filter p gaps r (subst (λ (rs : List Rect). Contains rs r) is in_some)).0 in
    record {
      order = order;
      are = λ r h. free.are r (back r h);
      apart = λ x y h has.
          let tall = (free.are h.0 (back h.0 h.1)).y_fits in
          let low = h.2.high in
          free.apart x y (h.0, back h.0 h.1, h.2) (of_points points rects x y are (omega (arith, tall, low)) has);
      all = λ x y le small missed. elim (free.all x y (omega (arith, le, fits)) small) [
        | inl h ↦
            let left = h.2.left in
            let kept : p h.0 ≡ true = le-leb h.0.x0 last (omega (arith, left, le)) in
            let in_some = subst (λ (rs : List Rect). Contains rs h.0) (sym is) (in_filter p gaps h.0 h.1 kept) in
            (h.0, Contains-permutation some sorted h.0 perm in_some, h.2)
        | inr h ↦ absurd (missed (to_points points rects x y are h))
      ];
    }

-- ---- What is held against it.

pub gaps_small : (points : List ℕ) (last : ℕ) (gaps : List Rect) → AreGaps points last gaps → AreSmall gaps
gaps_small points last gaps are k d lt = let r = are.are (get_or gaps k d) (Contains-get_or gaps k d lt) in (r.x_fits, r.y_fits)

pub gaps_some : (points : List ℕ) (last : ℕ) (gaps : List Rect) → AreGaps points last gaps
    → All (λ (r : Rect). (r.x0 ≤ r.x1) × (r.y0 ≤ r.y1)) gaps
gaps_some points last gaps are k d lt = let r = are.are (get_or gaps k d) (Contains-get_or gaps k d lt) in (r.wide, r.tall)

-- what a point in common with what is left free tells
pub point_told : (points : List ℕ) (last : ℕ) (rects gaps : List Rect) (found : Option Point) → AreGaps points last gaps
    → All (λ (r : Rect). r.x1 ≤ last) rects → AreSmall rects
    → MatchOption found (AreApartFrom rects gaps) (IsCommon rects gaps) → IsPointOutside points rects found
point_told points last rects gaps None are ends small apart = λ r h x y holds. elim (in_or_not points (x * 2 ^ 32 + y)) [
  | inl has ↦ has
  | inr missed ↦
      let right = holds.right in
      let high = holds.high in
      let end = All-contains (λ (s : Rect). s.x1 ≤ last) rects r ends h in
      let fits = (All-contains (λ (s : Rect). (s.x1 < 2 ^ 32) × (s.y1 < 2 ^ 32)) rects r small h).1 in
      let gap = are.all x y (omega (arith, right, end)) (omega (arith, high, fits)) missed in
      absurd (apart r gap.0 h gap.1 x y holds gap.2)
]
point_told points last rects gaps (Some p) are ends small common = (common.0, are.apart p.x p.y common.1)
