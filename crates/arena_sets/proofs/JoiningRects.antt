-- A rectangle joined with the next, which goes on from it.
use Rattle.std.proofs.Common.{◌≡◌, ℕ, zero, suc, ◌+◌, ◌-◌, ◌*◌, ◌^◌, ◌<◌, ◌≤◌, max, Bool, true, false, List, [], ◌∷◌, ◌++◌, length, get_or, refl, sym, ap, ap₂, ◌∙◌, arith, add-one, append_assoc, if◌then◌else◌}
use Rattle.std.specs.List.{range_with_len, flat_map}
use Rattle.std.proofs.lemmas.List.Elements.{All-nil, All-cons}
use Rattle.std.proofs.lemmas.Grind.{flat_map-append}
use Rattle.point_set.specs.declared.rect.Rect.{Rect}
use Rattle.point_set.specs.Rects.{AreBanded, Follows, rect_points, column_points, columns_end, has_column}
use Rattle.point_set.proofs.lemmas.Bands.{later}
use Rattle.point_set.proofs.lemmas.Maximal.{joined_run}
use Rattle.arena_sets.specs.Joined.{GoesOn, StandFor}

-- the first rectangle up to the last row of the second
abbrev pub joined : Rect → Rect → Rect
joined r s = record { x0 = r.x0; x1 = r.x1; y0 = r.y0; y1 = s.y1 }

-- the points of both in a column, by whether they have it
rows_joined : (b : Bool) (a : ℕ) (r s : Rect) → r.y0 ≤ r.y1 → s.y0 ≤ s.y1 → s.y0 ≡ r.y1 + 1
    → (if b then range_with_len (a + r.y0) (s.y1 + 1 - r.y0) else [])
    ≡ (if b then range_with_len (a + r.y0) (r.y1 + 1 - r.y0) else []) ++ (if b then range_with_len (a + s.y0) (s.y1 + 1 - s.y0) else [])
rows_joined false a r s some more on = refl
rows_joined true a r s some more on =
    let whole : a + s.y1 + 1 - (a + r.y0) ≡ s.y1 + 1 - r.y0 = omega arith in
    let first : a + r.y1 + 1 - (a + r.y0) ≡ r.y1 + 1 - r.y0 = omega arith in
    let second : a + s.y1 + 1 - (a + s.y0) ≡ s.y1 + 1 - s.y0 = omega arith in
    let both = joined_run (a + r.y0, a + r.y1) (a + s.y0, a + s.y1) (omega (arith, some)) (omega (arith, more)) (omega (arith, on)) in
    rw (← whole, ← first, ← second) both

column_joined : (x : ℕ) (r s : Rect) → r.y0 ≤ r.y1 → s.y0 ≤ s.y1 → GoesOn r s
    → column_points x (joined r s) ≡ column_points x r ++ column_points x s
column_joined x r s some more on =
    let same : has_column x s ≡ has_column x r = rw (on.0, on.1) refl in
    rw same (rows_joined (has_column x r) (x * 2 ^ 32) r s some more on.2)

columns_same : (f g : ℕ → List ℕ) (xs : List ℕ) → ((x : ℕ) → f x ≡ g x) → flat_map f xs ≡ flat_map g xs
columns_same f g [] h = refl
columns_same f g (x ∷ xs) h = ap₂ (λ (ps qs : List ℕ). ps ++ qs) (h x) (columns_same f g xs h)

-- the same columns, behind whatever comes before them
ends_same : (before : List Rect) (r s : Rect) (behind : List Rect) → r.x1 ≡ s.x1
    → columns_end (before ++ joined r s ∷ behind) ≡ columns_end (before ++ r ∷ s ∷ behind)
ends_same [] r s behind e = omega (arith, e)
ends_same (b ∷ before) r s behind e = ap (λ n. max (b.x1 + 1) n) (ends_same before r s behind e)

points_same : (before : List Rect) (r s : Rect) (behind : List Rect) → r.y0 ≤ r.y1 → s.y0 ≤ s.y1 → GoesOn r s
    → rect_points (before ++ joined r s ∷ behind) ≡ rect_points (before ++ r ∷ s ∷ behind)
points_same before r s behind some more on =
    let in_column : (x : ℕ) → flat_map (column_points x) (before ++ joined r s ∷ behind) ≡ flat_map (column_points x) (before ++ r ∷ s ∷ behind) =
    λ x. flat_map-append (column_points x) before (joined r s ∷ behind)
    ∙ ap (λ (ps : List ℕ). flat_map (column_points x) before ++ ps) (ap (λ (ps : List ℕ). ps ++ flat_map (column_points x) behind)
    (column_joined x r s some more on) ∙ append_assoc (column_points x r) (column_points x s) (flat_map (column_points x) behind))
    ∙ sym (flat_map-append (column_points x) before (r ∷ s ∷ behind)) in
    rw (ends_same before r s behind on.1)
    (columns_same (λ x. flat_map (column_points x) (before ++ joined r s ∷ behind)) (λ x. flat_map (column_points x) (before ++ r ∷ s ∷ behind))
    (range_with_len 0 (columns_end (before ++ r ∷ s ∷ behind))) in_column)

order_cons : (r s : Rect) (rs : List Rect) → Follows r s → AreBanded (s ∷ rs) → (k : ℕ) (d : Rect) → k + 1 < length (r ∷ s ∷ rs)
    → Follows (get_or (r ∷ s ∷ rs) k d) (get_or (r ∷ s ∷ rs) (k + 1) d)
order_cons r s rs follows h zero d lt = follows
order_cons r s rs follows h (suc k) d lt = rw (add-one (suc k)) (rw (add-one k) at (h.order k d (omega (arith, lt))))

-- a rectangle before others, in bands
banded_cons : (r s : Rect) (rs : List Rect) → (r.x0 ≤ r.x1) × (r.y0 ≤ r.y1) → Follows r s → AreBanded (s ∷ rs) → AreBanded (r ∷ s ∷ rs)
banded_cons r s rs some follows h = record {
  some = All-cons (λ (t : Rect). (t.x0 ≤ t.x1) × (t.y0 ≤ t.y1)) r (s ∷ rs) some h.some;
  order = order_cons r s rs follows h;
}

first_banded : (r s : Rect) (behind : List Rect) → GoesOn r s → AreBanded (r ∷ s ∷ behind) → AreBanded (joined r s ∷ behind)
first_banded r s [] on h = record {
  some = All-cons (λ (t : Rect). (t.x0 ≤ t.x1) × (t.y0 ≤ t.y1)) (joined r s) []
      ((h.some 0 r (omega arith)).0, omega (arith, (h.some 0 r (omega arith)).1, (h.some 1 r (omega arith)).1, on.2))
      (All-nil (λ (t : Rect). (t.x0 ≤ t.x1) × (t.y0 ≤ t.y1)));
  order = λ k d lt. absurd (omega (arith, lt));
}
first_banded r s (t ∷ behind) on h =
    let next = later r s (t ∷ behind) h in
    let up : Follows s t = next.order 0 r (omega arith) in
    let follows : Follows (joined r s) t =
    λ le. let u = up (rw (← on.1) le) in (on.0 ∙ u.0, on.1 ∙ u.1, u.2) in
    banded_cons (joined r s) t behind
    ((h.some 0 r (omega arith)).0, omega (arith, (h.some 0 r (omega arith)).1, (h.some 1 r (omega arith)).1, on.2)) follows
    (later s t behind next)

still_banded : (before : List Rect) (r s : Rect) (behind : List Rect) → GoesOn r s → AreBanded (before ++ r ∷ s ∷ behind)
    → AreBanded (before ++ joined r s ∷ behind)
still_banded [] r s behind on h = first_banded r s behind on h
still_banded (b ∷ []) r s behind on h =
    banded_cons b (joined r s) behind (h.some 0 b (omega arith)) (h.order 0 b (omega arith))
    (first_banded r s behind on (later b r (s ∷ behind) h))
still_banded (b ∷ c ∷ before) r s behind on h =
    banded_cons b c (before ++ joined r s ∷ behind) (h.some 0 b (omega arith)) (h.order 0 b (omega arith))
    (still_banded (c ∷ before) r s behind on (later b c (before ++ r ∷ s ∷ behind) h))

last_two : (before : List Rect) (r s : Rect) (behind : List Rect) → AreBanded (before ++ r ∷ s ∷ behind) → AreBanded (r ∷ s ∷ behind)
last_two [] r s behind h = h
last_two (b ∷ []) r s behind h = later b r (s ∷ behind) h
last_two (b ∷ c ∷ before) r s behind h = last_two (c ∷ before) r s behind (later b c (before ++ r ∷ s ∷ behind) h)

pub stand_joined : (r s : Rect) (behind : List Rect) → GoesOn r s → StandFor (r ∷ s ∷ behind) (joined r s ∷ behind)
stand_joined r s behind on before h =
    let two = last_two before r s behind h in
    (still_banded before r s behind on h, points_same before r s behind (two.some 0 r (omega arith)).1 (two.some 1 r (omega arith)).1 on)

pub stand_both : (xs ys zs : List Rect) → StandFor xs ys → StandFor ys zs → StandFor xs zs
stand_both xs ys zs first second before h =
    let there = first before h in
    let on = second before there.0 in
    (on.0, on.1 ∙ there.1)

-- the rectangles that are left, with those in their stead, of which the first is taken
pub stand_behind : (taken rest : List Rect) (rect : Rect) (behind : List Rect) → StandFor rest (rect ∷ behind) → AreBanded (taken ++ rest)
    → AreBanded ((taken ++ rect ∷ []) ++ behind) × (rect_points ((taken ++ rect ∷ []) ++ behind) ≡ rect_points (taken ++ rest))
stand_behind taken rest rect behind stand h = rw (append_assoc taken (rect ∷ []) behind) (stand taken h)
