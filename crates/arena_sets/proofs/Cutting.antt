-- Rectangles, each a run of points.
use Rattle.std.proofs.Common.{◌≡◌, ℕ, zero, suc, ◌+◌, ◌-◌, ◌*◌, ◌/◌, ◌%◌, ◌^◌, ◌<◌, ◌≤◌, List, [], ◌∷◌, ◌++◌, All, Contains, Option, Some, None, length, get_or, map, take, refl, sym, ap, ap₂, ◌∙◌, subst, inl, inr, arith, append_assoc, append-nil}
use Rattle.std.specs.List.{range_with_len}
use Rattle.std.specs.List.Sorted.{IsStrictlyIncreasing}
use Rattle.std.proofs.lemmas.Bool.{cases_lt}
use Rattle.std.proofs.lemmas.Grind.{flat_map-append}
use Rattle.std.proofs.lemmas.List.{get_or-map, length-map, map-append, take_more, take_all}
use Rattle.std.proofs.lemmas.List.Elements.{All-nil, All-cons, All-head, All-tail, All-append, Contains-append_left}
use Rattle.std.proofs.lemmas.Nat.{div-add-mod'}
use Rattle.point_set.specs.declared.rect.Rect.{Rect}
use Rattle.point_set.specs.Least.{IsLeastOf, IsLeastFrom, IsLeastGap, points_from}
use Rattle.point_set.specs.Rects.{AreBanded, AreSmall, Follows, Holds, rect_points, rect_at}
use Rattle.point_set.specs.Runs.{AreRuns, run_points, points_of}
use Rattle.point_set.proofs.lemmas.Ahead.{in_or_not}
use Rattle.point_set.proofs.lemmas.Columns.{of_has, to_has}
use Rattle.point_set.proofs.lemmas.InRuns.{holds_to, in_run, of_run}
use Rattle.point_set.proofs.lemmas.Left.{tail_above, tail_up, left_behind, left_of_all}
use Rattle.point_set.proofs.lemmas.Maximal.{joined_run}
use Rattle.point_set.proofs.lemmas.Same.{same_members}
use Rattle.arena_sets.specs.Pieces.{Adds, ArePieces, AreRectsOf, IsFilled, IsPiece, ends}
use Rattle.arena_sets.specs.RunsFrom.{AreRunsFrom}
use Rattle.arena_sets.proofs.Joining.{are_runs}
use Rattle.point_set.proofs.lemmas.Columns as columns
use Rattle.point_set.proofs.lemmas.RunPoints as ascending

-- ---- In order.

abbrev zero_rect : Rect
zero_rect = record { x0 = 0; x1 = 0; y0 = 0; y1 = 0 }

follows : (r s : Rect) → IsPiece r → IsPiece s → (ends r).1 < (ends s).0 → Follows r s
follows r s a b lt from =
    let ra = a.wide in
    let rb = a.y_fits in
    let sa = b.wide in
    let sb = b.tall in
    let sc = b.y_fits in
    elim (cases_lt r.x0 r.x1) [
      | inl wide ↦ absurd (omega (arith, (a.full wide).1))
      | inr one ↦ elim (cases_lt s.x0 s.x1) [
        | inl wide ↦ absurd (omega (arith, (b.full wide).0))
        | inr other ↦ (omega arith, omega arith, omega arith)
      ]
    ]

-- what stands behind a range in an ascending list
split : (a n : ℕ) (ps : List ℕ) → IsStrictlyIncreasing (range_with_len a (suc n) ++ ps) → ((q : ℕ) → Contains ps q → a + n < q)
    × IsStrictlyIncreasing ps
split a zero ps up = (λ q h. omega (arith, tail_above a q ps up h), tail_up a ps up)
split a (suc n) ps up =
    let more = split (a + 1) n ps (tail_up a (range_with_len (a + 1) (suc n) ++ ps) up) in
    (λ q h. omega (arith, more.0 q h), more.1)

runs_from : (low : ℕ) (runs : List (ℕ × ℕ)) → All (λ (run : ℕ × ℕ). run.0 ≤ run.1) runs → ((q : ℕ) → Contains (points_of runs) q → low ≤ q)
    → IsStrictlyIncreasing (points_of runs) → AreRunsFrom low runs
runs_from low [] some above up = tt
runs_from low (run ∷ runs) some above up =
    let here : run.0 ≤ run.1 = All-head (λ (r : ℕ × ℕ). r.0 ≤ r.1) run runs some in
    let n : run.1 + 1 - run.0 ≡ suc (run.1 - run.0) = omega arith in
    let parts = split run.0 (run.1 - run.0) (points_of runs)
    (subst (λ k. IsStrictlyIncreasing (range_with_len run.0 k ++ points_of runs)) n up) in (
      above run.0 (Contains-append_left (run_points run) (points_of runs) run.0
          (holds_to run run.0 (record { low = omega arith; high = here }))),
      here,
      runs_from (run.1 + 1) runs (All-tail (λ (r : ℕ × ℕ). r.0 ≤ r.1) run runs some) (λ q h. omega (arith, parts.0 q h)) parts.1,
    )

some_points : (rects : List Rect) → All IsPiece rects → All (λ (run : ℕ × ℕ). run.0 ≤ run.1) (map ends rects)
some_points [] h = All-nil (λ (run : ℕ × ℕ). run.0 ≤ run.1)
some_points (r ∷ rs) h =
    let p = All-head IsPiece r rs h in
    let wide = p.wide in
    let tall = p.tall in
    All-cons (λ (run : ℕ × ℕ). run.0 ≤ run.1) (ends r) (map ends rs) (omega arith) (some_points rs (All-tail IsPiece r rs h))

-- ---- Their points.

-- the rectangle at a place, as a run
run_at : (rects : List Rect) (k : ℕ) → k < length rects → get_or (map ends rects) k (0, 0) ≡ ends (rect_at rects k)
run_at rects k lt = get_or-map ends rects k zero_rect (0, 0) lt

to_run : (rects : List Rect) (q : ℕ) → AreSmall rects → Contains (rect_points rects) q → Contains (points_of (map ends rects)) q
to_run rects q small h =
    let a = to_has rects q small h in
    let k = a.has.place in
    let holds = a.has.holds in
    let left = holds.left in
    let right = holds.right in
    let low = holds.low in
    let high = holds.high in
    let is = a.is in
    of_run (map ends rects) k q (omega (arith, length-map rects ends, a.has.within))
    (rw (run_at rects k a.has.within) (record { low = omega arith; high = omega arith }))

holds_in : (r : Rect) (q : ℕ) → IsPiece r → (ends r).0 ≤ q → q ≤ (ends r).1 → Holds r (q / 2 ^ 32) (q % 2 ^ 32)
holds_in r q p from to =
    let tall = p.tall in
    let fits = p.y_fits in
    let is : q / 2 ^ 32 * 2 ^ 32 + q % 2 ^ 32 ≡ q = div-add-mod' q (2 ^ 32) in
    let small : q % 2 ^ 32 < 2 ^ 32 = omega arith in
    elim (cases_lt r.x0 r.x1) [
      | inl wide ↦ let full = p.full wide in record {
        left = omega arith;
        right = omega arith;
        low = omega (arith, full.0);
        high =
            omega (arith, full.1);
      }
      | inr one ↦ record { left = omega arith; right = omega arith; low = omega arith; high = omega arith }
    ]

of_run_at : (rects : List Rect) (q : ℕ) → All IsPiece rects → Contains (points_of (map ends rects)) q → Contains (rect_points rects) q
of_run_at rects q pieces h =
    let i = in_run (map ends rects) q h in
    let k = i.place in
    let lt : k < length rects = omega (arith, length-map rects ends, i.within) in
    let holds = subst (λ (run : ℕ × ℕ). (run.0 ≤ q) × (q ≤ run.1)) (run_at rects k lt) (i.holds.low, i.holds.high) in
    subst (Contains (rect_points rects)) (div-add-mod' q (2 ^ 32))
    (of_has rects (q / 2 ^ 32) (q % 2 ^ 32) (record {
      place = k;
      within = lt;
      holds =
          holds_in (rect_at rects k) q (pieces k zero_rect lt) holds.0 holds.1;
    }))

-- pieces with ascending points are rectangles of a set
pub are_rects : (points : List ℕ) (rects : List Rect) → ArePieces points rects → IsStrictlyIncreasing points → AreRectsOf points rects
are_rects points rects h up =
    let pieces = h.pieces in
    let up' : IsStrictlyIncreasing (points_of (map ends rects)) = subst IsStrictlyIncreasing (sym h.joined) up in
    let runs : AreRuns (map ends rects) = are_runs 0 (map ends rects)
    (runs_from 0 (map ends rects) (some_points rects pieces) (λ q _. omega arith) up') in
    let small : AreSmall rects = λ k d lt. ((pieces k d lt).x_fits, (pieces k d lt).y_fits) in
    let banded : AreBanded rects = record {
      some = λ k d lt. ((pieces k d lt).wide, (pieces k d lt).tall);
      order = λ k d lt.
          let before = runs.1 k (ends d) (omega (arith, lt, length-map rects ends)) in
          follows (get_or rects k d) (get_or rects (k + 1) d) (pieces k d (omega (arith, lt))) (pieces (k + 1) d lt)
          (rw (get_or-map ends rects k d (ends d) (omega (arith, lt)), get_or-map ends rects (k + 1) d (ends d) lt) at before);
    } in (
      (banded, small),
      same_members (rect_points rects) (points_of (map ends rects)) (columns.points_ascend rects banded small)
          (ascending.points_ascend (map ends rects) runs)
          (λ q m. to_run rects q small m) (λ q m. of_run_at rects q pieces m) ∙ h.joined,
    )

-- ---- One more.

pub points_append : (xs ys : List Rect) → points_of (map ends (xs ++ ys)) ≡ points_of (map ends xs) ++ points_of (map ends ys)
points_append xs ys = ap points_of (map-append ends xs ys) ∙ flat_map-append run_points (map ends xs) (map ends ys)

pub pieces_append : (ps qs : List ℕ) (xs ys : List Rect) → ArePieces ps xs → ArePieces qs ys → ArePieces (ps ++ qs) (xs ++ ys)
pieces_append ps qs xs ys a b = record {
  pieces = All-append IsPiece xs ys a.pieces b.pieces;
  joined = points_append xs ys ∙ ap₂ (λ (us vs : List ℕ). us ++ vs) a.joined b.joined;
}

one_piece : (r : Rect) (first last : ℕ) → IsPiece r → (ends r).0 ≡ first → (ends r).1 ≡ last → ArePieces (run_points (first, last)) (r ∷ [])
one_piece r first last is begins end = record {
  pieces = All-cons IsPiece r [] is (All-nil IsPiece);
  joined = append-nil (run_points (ends r)) ∙ ap₂ (λ a b. run_points (a, b)) begins end;
}

-- the rectangles of a run so far, up to the number before `from`
pub record AreSoFar (old now : List Rect) (first from last : ℕ) : Type 0 where
  pub added : List Rect
  pub is : now ≡ old ++ added
  pub pieces : All IsPiece added
  pub span : points_of (map ends added) ++ run_points (from, last) ≡ run_points (first, last)

pub piece_more : (old now new : List Rect) (first from end last : ℕ) (r : Rect) → AreSoFar old now first from last → IsPiece r
    → (ends r).0 ≡ from → (ends r).1 ≡ end → from ≤ end → end < last → new ≡ now ++ r ∷ [] → AreSoFar old new first (end + 1) last
piece_more old now new first from end last r before is begins ends_at le lt pushed =
    let one = one_piece r from end is begins ends_at in
    record {
      added = before.added ++ r ∷ [];
      is = pushed ∙ ap (λ (xs : List Rect). xs ++ r ∷ []) before.is ∙ append_assoc old before.added (r ∷ []);
      pieces = All-append IsPiece before.added (r ∷ []) before.pieces one.pieces;
      span =
          ap (λ (ps : List ℕ). ps ++ run_points (end + 1, last)) (points_append before.added (r ∷ [])
          ∙ ap (λ (ps : List ℕ). points_of (map ends before.added) ++ ps) one.joined)
          ∙ append_assoc (points_of (map ends before.added)) (run_points (from, end)) (run_points (end + 1, last))
          ∙ ap (λ (ps : List ℕ). points_of (map ends before.added) ++ ps)
          (sym (joined_run (from, end) (end + 1, last) le (omega (arith, lt)) refl))
          ∙ before.span;
    }

pub pieces_done : (old now new : List Rect) (first from last : ℕ) (r : Rect) → AreSoFar old now first from last → IsPiece r
    → (ends r).0 ≡ from → (ends r).1 ≡ last → new ≡ now ++ r ∷ [] → Adds old new (ArePieces (run_points (first, last)))
pieces_done old now new first from last r before is begins ends_at pushed =
    let one = one_piece r from last is begins ends_at in (
      before.added ++ r ∷ [],
      pushed ∙ ap (λ (xs : List Rect). xs ++ r ∷ []) before.is ∙ append_assoc old before.added (r ∷ []),
      record {
        pieces = All-append IsPiece before.added (r ∷ []) before.pieces one.pieces;
        joined = points_append before.added (r ∷ []) ∙ ap (λ (ps : List ℕ). points_of (map ends before.added) ++ ps) one.joined
            ∙ before.span;
      },
    )

-- ---- Run by run.

-- where points that follow one another end: before a gap, or at the greatest `u64`
pub filled_to_gap : (points : List ℕ) (first gap : ℕ) → Contains points first → IsLeastGap points first (Some gap)
    → IsFilled points first (gap - 1)
filled_to_gap points first gap has least =
    let past : first < gap = elim (cases_lt first gap) [
      | inl lt ↦ lt
      | inr le ↦ let same : gap ≡ first = omega (arith, least.0.1, le) in
          absurd (least.0.0 (subst (Contains points) (sym same) has))
    ] in (
      omega (arith, past),
      λ p from to. elim (in_or_not points p) [
        | inl found ↦ found
        | inr missed ↦
            absurd (omega (arith, past, to, least.1 p (missed, from, omega (arith, to, past, least.0.2))))
      ],
    )

pub filled_to_end : (points : List ℕ) (first : ℕ) → first < 2 ^ 64 → IsLeastGap points first None
    → IsFilled points first 18446744073709551615
filled_to_end points first fits none = (
  omega (arith, fits),
  λ p from to. elim (in_or_not points p) [
    | inl found ↦ found
    | inr missed ↦
        absurd (none p (missed, from, omega (arith, to)))
  ],
)

-- the points from the first one of a run on are the run, and those from the next one on
run_left : (points : List ℕ) (first n : ℕ) (next : Option ℕ) → IsStrictlyIncreasing points
    → ((p : ℕ) → first ≤ p → p ≤ first + n → Contains points p) → IsLeastFrom points (first + n + 1) next
    → points_from points (Some first) ≡ range_with_len first (suc n) ++ points_from points next
run_left points first zero next up filled least =
    let e : first + 0 + 1 ≡ first + 1 = omega arith in
    left_behind first points next up (filled first (omega arith) (omega arith)) (subst (λ k. IsLeastFrom points k next) e least)
run_left points first (suc n) next up filled least =
    let e : first + suc n + 1 ≡ first + 1 + n + 1 = omega arith in
    left_behind first points (Some (first + 1)) up (filled first (omega arith) (omega arith))
    ((filled (first + 1) (omega arith) (omega arith), omega arith), λ q h. h.1)
    ∙ ap (λ (ps : List ℕ). first ∷ ps) (run_left points (first + 1) n next up
    (λ p from to. filled p (omega (arith, from)) (omega (arith, to))) (subst (λ k. IsLeastFrom points k next) e least))

pub run_cut : (points : List ℕ) (first last : ℕ) (next : Option ℕ) → IsStrictlyIncreasing points → IsFilled points first last
    → IsLeastFrom points (last + 1) next → points_from points (Some first) ≡ run_points (first, last) ++ points_from points next
run_cut points first last next up filled least =
    let le = filled.0 in
    let e : first + (last - first) + 1 ≡ last + 1 = omega arith in
    let n : suc (last - first) ≡ last + 1 - first = omega arith in
    run_left points first (last - first) next up (λ p from to. filled.1 p from (omega (arith, to, le)))
    (subst (λ k. IsLeastFrom points k next) (sym e) least)
    ∙ ap (λ k. range_with_len first k ++ points_from points next) n

-- the rectangles of the points before the next one
pub record AreBefore (old now : List Rect) (points : List ℕ) (next : Option ℕ) : Type 0 where
  pub added : List Rect
  pub is : now ≡ old ++ added
  pub pieces : All IsPiece added
  pub span : points_of (map ends added) ++ points_from points next ≡ points

pub run_more : (old now new : List Rect) (points : List ℕ) (first last : ℕ) (next : Option ℕ) → IsStrictlyIncreasing points
    → AreBefore old now points (Some first) → IsFilled points first last → IsLeastFrom points (last + 1) next
    → Adds now new (ArePieces (run_points (first, last))) → AreBefore old new points next
run_more old now new points first last next up before filled least added = record {
  added = before.added ++ added.0;
  is = added.1 ∙ ap (λ (xs : List Rect). xs ++ added.0) before.is ∙ append_assoc old before.added added.0;
  pieces = All-append IsPiece before.added added.0 before.pieces added.2.pieces;
  span =
      ap (λ (ps : List ℕ). ps ++ points_from points next) (points_append before.added added.0
      ∙ ap (λ (ps : List ℕ). points_of (map ends before.added) ++ ps) added.2.joined)
      ∙ append_assoc (points_of (map ends before.added)) (run_points (first, last)) (points_from points next)
      ∙ ap (λ (ps : List ℕ). points_of (map ends before.added) ++ ps) (sym (run_cut points first last next up filled least))
      ∙ before.span;
}

pub runs_done : (old now : List Rect) (points : List ℕ) (next : Option ℕ) → AreBefore old now points next → ((p : ℕ) → next ≡ Some p → ⊥)
    → Adds old now (ArePieces points)
runs_done old now points (Some p) before none = absurd (none p refl)
runs_done old now points None before none = (
  before.added,
  before.is,
  record { pieces = before.pieces; joined = sym (append-nil (points_of (map ends before.added))) ∙ before.span },
)

pub none_before : (old : List Rect) (points : List ℕ) (next : Option ℕ) → IsLeastOf points next → AreBefore old old points next
none_before old points next least = record {
  added = [];
  is = sym (append-nil old);
  pieces = All-nil IsPiece;
  span =
      left_of_all points next least;
}

pub least_from_zero : (points : List ℕ) (o : Option ℕ) → IsLeastOf points o → IsLeastFrom points 0 o
least_from_zero points (Some p) least = ((least.0, omega arith), λ q h. least.1 q h.0)
least_from_zero points None least = λ q h. least q h.0

-- rectangles that are added as runs are those of a set
pub rects_added : (old new : List Rect) (points : List ℕ) → IsStrictlyIncreasing points → Adds old new (ArePieces points)
    → Adds old new (AreRectsOf points)
rects_added old new points up h = (h.0, h.1, are_rects points h.0 h.2 up)

-- ---- The runs of a list.

pub list_more : (runs : List (ℕ × ℕ)) (k : ℕ) (d : ℕ × ℕ) (old new : List Rect) → k < length runs → ArePieces (points_of (take k runs)) old
    → Adds old new (ArePieces (run_points (get_or runs k d))) → ArePieces (points_of (take (k + 1) runs)) new
list_more runs k d old new lt before added =
    let run = get_or runs k d in
    let e : points_of (take (k + 1) runs) ≡ points_of (take k runs) ++ run_points run =
    ap points_of (take_more runs k d lt) ∙ flat_map-append run_points (take k runs) (run ∷ [])
    ∙ ap (λ (ps : List ℕ). points_of (take k runs) ++ ps) (append-nil (run_points run)) in
    rw (e, added.1) (pieces_append (points_of (take k runs)) (run_points run) old added.0 before added.2)

pub list_done : (runs : List (ℕ × ℕ)) (k : ℕ) (rects : List Rect) → AreRuns runs → length runs ≤ k
    → ArePieces (points_of (take k runs)) rects → AreRectsOf (points_of runs) rects
list_done runs k rects are past h =
    let all : take k runs ≡ runs = grind (arith, take_all) in
    are_rects (points_of runs) rects (subst (λ rs. ArePieces (points_of rs) rects) all h) (ascending.points_ascend runs are)
