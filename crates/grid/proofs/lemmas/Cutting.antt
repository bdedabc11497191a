-- Ascending lists of cuts.
use Rattle.std.proofs.Common.{◌≡◌, ◌↔◌, ℕ, zero, suc, ◌+◌, ◌-◌, ◌^◌, ◌<◌, ◌≤◌, ◌⊎◌, nat_le, List, [], ◌∷◌, All, Contains, length, get_or, true, false, refl, sym, ◌∙◌, subst, inl, inr, arith, add-one}
use Rattle.std.specs.List.Sorted.{IsStrictlyIncreasing, IsPartitionPoint, IsPartitionedBy}
use Rattle.std.proofs.lemmas.Bool.{cases_order, cases_lt, lt-ltb, le-ltb, eq-eqb, ne_eqb, leb-true, leb-false}
use Rattle.std.proofs.lemmas.List.Elements.{Contains-get_or, All-contains}
use Rattle.std.proofs.lemmas.List.Sorted.{IsPartitionedBy-leb}
use Rattle.std.proofs.lemmas.Map.Keys.{non_decreasing_from_sorted, sorted_from_strictly_increasing}
use Rattle.point_set.proofs.lemmas.Ahead.{at_place, spread}
use Rattle.point_set.specs.declared.rect.Rect.{Rect}
use Rattle.point_set.specs.Rects.{Holds}
use Rattle.grid.specs.Cuts.{with_cut, cuts, x_ends, y_ends, grid_of, AreCuts, IsInSpan, HasBoth}

-- each number is at least `low`, and above the number before it
abbrev pub Rises : ℕ → List ℕ → Type 0
Rises low [] = Unit {0}
Rises low (p ∷ ps) = (low ≤ p) × Rises (p + 1) ps

rises_lower : (low high : ℕ) (ps : List ℕ) → low ≤ high → Rises high ps → Rises low ps
rises_lower low high [] le h = tt
rises_lower low high (p ∷ ps) le h = (omega (arith, h.0), h.1)

here : (x : ℕ) (xs : List ℕ) → Contains (x ∷ xs) x
here x xs = (0, omega arith, refl)

behind : (x y : ℕ) (xs : List ℕ) → Contains xs y → Contains (x ∷ xs) y
behind x y xs h = (suc h.0, omega (arith, h.1), h.2)

first_or : (x y k : ℕ) (xs : List ℕ) → k < length (x ∷ xs) → get_or (x ∷ xs) k y ≡ y → (x ≡ y) ⊎ Contains xs y
first_or x y zero xs lt at = inl at
first_or x y (suc k) xs lt at = inr (k, omega arith, at)

in_first : (x y : ℕ) (xs : List ℕ) → Contains (x ∷ xs) y → (x ≡ y) ⊎ Contains xs y
in_first x y xs h = first_or x y h.0 xs h.1 h.2

rises_above : (low p : ℕ) (ps : List ℕ) → Rises low ps → Contains ps p → low ≤ p
rises_above low p [] up h = absurd (omega (arith, h.1))
rises_above low p (q ∷ ps) up h = elim (in_first q p ps h) [
  | inl same ↦ omega (arith, up.0, same)
  | inr more ↦ omega (arith, up.0, rises_above (q + 1) p ps up.1 more)
]

-- one number more
with_rises : (low n : ℕ) (ms : List ℕ) → low ≤ n → Rises low ms → Rises low (with_cut n ms)
with_rises low n [] le up = (le, tt)
with_rises low n (m ∷ ms) le up = elim (cases_order n m) [
  | inl same ↦ rw (le-ltb n m (omega (arith, same)), eq-eqb n m same) up
  | inr (inl lt) ↦ rw (lt-ltb n m lt) (le, (omega arith, up.1))
  | inr (inr gt) ↦ rw (le-ltb n m (omega arith), ne_eqb n m (λ e. omega (arith, gt, e))) (up.0, with_rises (m + 1) n ms (omega arith) up.1)
]

with_has : (n p : ℕ) (ms : List ℕ) → Contains (with_cut n ms) p ↔ Contains (n ∷ ms) p
with_has n p [] = (λ h. h, λ h. h)
with_has n p (m ∷ ms) = elim (cases_order n m) [
  | inl same ↦ rw (le-ltb n m (omega (arith, same)), eq-eqb n m same) (
    λ h. behind n p (m ∷ ms) h,
    λ h. elim (in_first n p (m ∷ ms) h) [ inl e ↦ subst (Contains (m ∷ ms)) (sym same ∙ e) (here m ms) | inr more ↦ more ],
  )
  | inr (inl lt) ↦ rw (lt-ltb n m lt) (λ h. h, λ h. h)
  | inr (inr gt) ↦ rw (le-ltb n m (omega arith), ne_eqb n m (λ e. omega (arith, gt, e))) (
    λ h. elim (in_first m p (with_cut n ms) h) [
      | inl e ↦ behind n p (m ∷ ms) (subst (Contains (m ∷ ms)) e (here m ms))
      | inr more ↦ elim (in_first n p ms ((with_has n p ms).0 more)) [
        | inl e ↦ subst (Contains (n ∷ m ∷ ms)) e (here n (m ∷ ms))
        | inr later ↦ behind n p (m ∷ ms) (behind m p ms later)
      ]
    ],
    λ h. elim (in_first n p (m ∷ ms) h) [
      | inl e ↦ behind m p (with_cut n ms) ((with_has n p ms).1 (subst (Contains (n ∷ ms)) e (here n ms)))
      | inr more ↦ elim (in_first m p ms more) [
        | inl e ↦ subst (Contains (m ∷ with_cut n ms)) e (here m (with_cut n ms))
        | inr later ↦ behind m p (with_cut n ms) ((with_has n p ms).1 (behind n p ms later))
      ]
    ],
  )
]

cuts_rise : (ns : List ℕ) → Rises 0 (cuts ns)
cuts_rise [] = tt
cuts_rise (n ∷ ns) = with_rises 0 n (cuts ns) (omega arith) (cuts_rise ns)

pub cuts_have : (ns : List ℕ) (p : ℕ) → Contains (cuts ns) p ↔ Contains ns p
cuts_have [] p = (λ h. h, λ h. h)
cuts_have (n ∷ ns) p = (
  λ h. elim (in_first n p (cuts ns) ((with_has n p (cuts ns)).0 h))
      [ inl e ↦ subst (Contains (n ∷ ns)) e (here n ns) | inr more ↦ behind n p ns ((cuts_have ns p).0 more) ],
  λ h. (with_has n p (cuts ns)).1 (elim (in_first n p ns h)
      [ inl e ↦ subst (Contains (n ∷ cuts ns)) e (here n (cuts ns)) | inr more ↦ behind n p (cuts ns) ((cuts_have ns p).1 more) ]),
)

increasing : (low : ℕ) (ps : List ℕ) → Rises low ps → IsStrictlyIncreasing ps
increasing low [] h k lt = absurd (omega arith)
increasing low (p ∷ []) h k lt = absurd (omega arith)
increasing low (p ∷ q ∷ ps) h zero lt = omega (arith, h.1.0)
increasing low (p ∷ q ∷ ps) h (suc k) lt = rw (add-one (suc k)) (rw (add-one k) at (increasing (p + 1) (q ∷ ps) h.1 k (omega arith)))

pub cuts_ascend : (ns : List ℕ) → IsStrictlyIncreasing (cuts ns)
cuts_ascend ns = increasing 0 (cuts ns) (cuts_rise ns)

-- ascending lists of the same numbers are one
same_rises : (low : ℕ) (ps qs : List ℕ) → Rises low ps → Rises low qs → ((n : ℕ) → low ≤ n → Contains ps n ↔ Contains qs n) → ps ≡ qs
same_rises low [] [] up also same = refl
same_rises low [] (q ∷ qs) up also same = let h = (same q also.0).1 (here q qs) in absurd (omega (arith, h.1))
same_rises low (p ∷ ps) [] up also same = let h = (same p up.0).0 (here p ps) in absurd (omega (arith, h.1))
same_rises low (p ∷ ps) (q ∷ qs) up also same =
    let le : q ≤ p = elim (in_first q p qs ((same p up.0).0 (here p ps)))
    [ inl e ↦ omega (arith, e) | inr more ↦ omega (arith, rises_above (q + 1) p qs also.1 more) ] in
    let ge : p ≤ q = elim (in_first p q ps ((same q also.0).1 (here q qs)))
    [ inl e ↦ omega (arith, e) | inr more ↦ omega (arith, rises_above (p + 1) q ps up.1 more) ] in
    let one : p ≡ q = omega arith in
    let rest : ps ≡ qs = same_rises (p + 1) ps qs up.1 (subst (λ n. Rises (n + 1) qs) (sym one) also.1) (λ n above. (
      λ h. elim (in_first q n qs ((same n (omega (arith, above, up.0))).0 (behind p n ps h)))
          [ inl e ↦ absurd (omega (arith, e, one, above)) | inr more ↦ more ],
      λ h. elim (in_first p n ps ((same n (omega (arith, above, up.0))).1 (behind q n qs h)))
          [ inl e ↦ absurd (omega (arith, e, above)) | inr more ↦ more ],
    )) in
    rw (one, rest) refl

rises_from : (ps : List ℕ) (p : ℕ) → IsStrictlyIncreasing (p ∷ ps) → Rises (p + 1) ps
rises_from [] p up = tt
rises_from (q ∷ qs) p up = (
  let first : p < q = up 0 (omega arith) in omega arith,
  rises_from qs q (λ k lt. rw (add-one k) (rw (add-one (suc k)) at (up (suc k) (omega (arith, lt))))),
)

pub rises_of : (ps : List ℕ) → IsStrictlyIncreasing ps → Rises 0 ps
rises_of [] up = tt
rises_of (p ∷ ps) up = (omega arith, rises_from ps p up)

-- an ascending list of just these numbers is that of the cuts
pub are_cuts : (ns ps : List ℕ) → IsStrictlyIncreasing ps → ((n : ℕ) → Contains ps n ↔ Contains ns n) → ps ≡ cuts ns
are_cuts ns ps up same = same_rises 0 ps (cuts ns) (rises_of ps up) (cuts_rise ns)
    (λ n _. (λ h. (cuts_have ns n).1 ((same n).0 h), λ h. (same n).1 ((cuts_have ns n).0 h)))

-- what is small stays small
pub are_small : (ns : List ℕ) → All (λ n. n ≤ 2 ^ 32) ns → AreCuts (cuts ns)
are_small ns small = (
  cuts_ascend ns,
  λ k d lt.
      let has = (cuts_have ns (get_or (cuts ns) k d)).0 (Contains-get_or (cuts ns) k d lt) in
      All-contains (λ n. n ≤ 2 ^ 32) ns (get_or (cuts ns) k d) small has,
)

-- ---- The span of a number.

-- cuts up to a number stand before those above it
pub at_last : (ns : List ℕ) (x n : ℕ) → IsPartitionPoint (λ m. m ≤ x) (λ m. x < m) ns n → 0 < n → n < length ns → IsInSpan ns (n - 1) x
at_last ns x n parts some lt =
    let e : n - 1 + 1 ≡ n = omega arith in
    rw e (lt, parts.0 (n - 1) 0 (omega arith) (omega arith), parts.1 n 0 (omega arith) lt)

pub in_none : (ns : List ℕ) (x n : ℕ) → IsPartitionPoint (λ m. m ≤ x) (λ m. x < m) ns n → (n ≡ 0) ⊎ (n ≡ length ns) → (k : ℕ)
    → IsInSpan ns k x → ⊥
in_none ns x n parts (inl e) k h = omega (arith, h.0, h.1, parts.1 k 0 (omega arith) (omega (arith, h.0)))
in_none ns x n parts (inr e) k h = omega (arith, h.0, h.2, parts.0 (k + 1) 0 (omega (arith, h.0, e)) (omega (arith, h.0)))

-- no more cuts come before a number's span than there are numbers before it
pub place_below : (ns : List ℕ) (k x : ℕ) → IsStrictlyIncreasing ns → IsInSpan ns k x → k ≤ x
place_below ns k x up h = omega (arith, h.1, h.0, spread ns 0 k up (omega arith) (omega (arith, h.0)))

-- between a cut and a later one some span has the number
pub some_span : (ns : List ℕ) (x i n : ℕ) → get_or ns i 0 ≤ x → x < get_or ns (i + n) 0 → i + n < length ns → (k : ℕ) × IsInSpan ns k x
some_span ns x i zero low high lt = let e : i + 0 ≡ i = omega arith in absurd (omega (arith, low, rw e at high))
some_span ns x i (suc n) low high lt = elim (cases_lt x (get_or ns (i + 1) 0)) [
  | inl left ↦ (i, (omega (arith, lt), low, left))
  | inr right ↦ let e : i + suc n ≡ i + 1 + n = omega arith in some_span ns x (i + 1) n right (rw e at high) (omega (arith, lt))
]

-- so some span has a number that lies from one cut on before another
pub has_span : (ns : List ℕ) (low high x : ℕ) → IsStrictlyIncreasing ns → Contains ns low → Contains ns high → low ≤ x → x < high
    → (k : ℕ) × IsInSpan ns k x
has_span ns low high x up begin end from to =
    let b = at_place ns low begin in
    let e = at_place ns high end in
    elim (cases_lt begin.0 end.0) [
      | inl before ↦
          let z : begin.0 + (end.0 - begin.0) ≡ end.0 = omega arith in
          some_span ns x begin.0 (end.0 - begin.0) (omega (arith, b, from)) (rw z (omega (arith, e, to))) (rw z end.1)
      | inr behind ↦ absurd (omega (arith, b, e, from, to, spread ns end.0 begin.0 up behind begin.1))
    ]

-- the span of a cut begins with it
pub begins : (ns : List ℕ) (k n : ℕ) → IsStrictlyIncreasing ns → IsInSpan ns k n → Contains ns n → get_or ns k 0 ≡ n
begins ns k n up h has =
    let at = at_place ns n has in
    elim (cases_order has.0 k) [
      | inl same ↦ subst (λ i. get_or ns i 0 ≡ n) same at
      | inr (inl before) ↦ absurd (omega (arith, at, h.1, h.0, spread ns has.0 k up (omega arith) (omega (arith, h.0))))
      | inr (inr behind) ↦ absurd (omega (arith, at, h.2, spread ns (k + 1) has.0 up (omega arith) has.1))
    ]

-- ---- No cut lies inside a span.

no_cut_inside : (ns : List ℕ) (k x z n : ℕ) → IsStrictlyIncreasing ns → IsInSpan ns k x → IsInSpan ns k z → Contains ns n → n ≤ x → n ≤ z
no_cut_inside ns k x z n up here there has le =
    let at = at_place ns n has in
    elim (cases_lt k has.0) [
      | inl after ↦ absurd (omega (arith, at, spread ns (k + 1) has.0 up (omega arith) has.1, here.2, le))
      | inr before ↦ omega (arith, at, spread ns has.0 k up before (omega (arith, here.0)), there.1)
    ]

x_begin : (rects : List Rect) (r : Rect) (k : ℕ) → k < length rects → get_or rects k r ≡ r
    → Contains (x_ends rects) r.x0 × Contains (x_ends rects) (r.x1 + 1)
x_begin [] r k lt at = absurd (omega arith)
x_begin (s ∷ rs) r zero lt at = (
  subst (λ (q : Rect). Contains (x_ends (s ∷ rs)) q.x0) at (here s.x0 ((s.x1 + 1) ∷ x_ends rs)),
  subst (λ (q : Rect). Contains (x_ends (s ∷ rs)) (q.x1 + 1)) at
      (behind s.x0 (s.x1 + 1) ((s.x1 + 1) ∷ x_ends rs) (here (s.x1 + 1) (x_ends rs))),
)
x_begin (s ∷ rs) r (suc k) lt at = let h = x_begin rs r k (omega arith) at in (
  behind s.x0 r.x0 ((s.x1 + 1) ∷ x_ends rs) (behind (s.x1 + 1) r.x0 (x_ends rs) h.0),
  behind s.x0 (r.x1 + 1) ((s.x1 + 1) ∷ x_ends rs) (behind (s.x1 + 1) (r.x1 + 1) (x_ends rs) h.1),
)

y_begin : (rects : List Rect) (r : Rect) (k : ℕ) → k < length rects → get_or rects k r ≡ r
    → Contains (y_ends rects) r.y0 × Contains (y_ends rects) (r.y1 + 1)
y_begin [] r k lt at = absurd (omega arith)
y_begin (s ∷ rs) r zero lt at = (
  subst (λ (q : Rect). Contains (y_ends (s ∷ rs)) q.y0) at (here s.y0 ((s.y1 + 1) ∷ y_ends rs)),
  subst (λ (q : Rect). Contains (y_ends (s ∷ rs)) (q.y1 + 1)) at
      (behind s.y0 (s.y1 + 1) ((s.y1 + 1) ∷ y_ends rs) (here (s.y1 + 1) (y_ends rs))),
)
y_begin (s ∷ rs) r (suc k) lt at = let h = y_begin rs r k (omega arith) at in (
  behind s.y0 r.y0 ((s.y1 + 1) ∷ y_ends rs) (behind (s.y1 + 1) r.y0 (y_ends rs) h.0),
  behind s.y0 (r.y1 + 1) ((s.y1 + 1) ∷ y_ends rs) (behind (s.y1 + 1) (r.y1 + 1) (y_ends rs) h.1),
)

-- the ends of a rectangle are cuts
pub record HasEnds (rects : List Rect) (r : Rect) : Type 0 where
  pub left : Contains (grid_of rects).xs r.x0
  pub right : Contains (grid_of rects).xs (r.x1 + 1)
  pub low : Contains (grid_of rects).ys r.y0
  pub high : Contains (grid_of rects).ys (r.y1 + 1)

pub has_ends : (rects : List Rect) (r : Rect) → Contains rects r → HasEnds rects r
has_ends rects r has =
    let xe = x_begin rects r has.0 has.1 has.2 in
    let ye = y_begin rects r has.0 has.1 has.2 in
    record {
      left = (cuts_have (x_ends rects) r.x0).1 xe.0;
      right = (cuts_have (x_ends rects) (r.x1 + 1)).1 xe.1;
      low = (cuts_have (y_ends rects) r.y0).1 ye.0;
      high = (cuts_have (y_ends rects) (r.y1 + 1)).1 ye.1;
    }

moved : (rects : List Rect) (r : Rect) (k l x y z v : ℕ) → Contains rects r → IsInSpan (cuts (x_ends rects)) k x
    → IsInSpan (cuts (x_ends rects)) k z → IsInSpan (cuts (y_ends rects)) l y → IsInSpan (cuts (y_ends rects)) l v → Holds r x y
    → Holds r z v
moved rects r k l x y z v has xk zk yl vl h =
    let xe = x_begin rects r has.0 has.1 has.2 in
    let ye = y_begin rects r has.0 has.1 has.2 in
    let x_up = cuts_ascend (x_ends rects) in
    let y_up = cuts_ascend (y_ends rects) in
    let right = h.right in
    let high = h.high in
    record {
      left = no_cut_inside (cuts (x_ends rects)) k x z r.x0 x_up xk zk ((cuts_have (x_ends rects) r.x0).1 xe.0) h.left;
      right = elim (cases_lt r.x1 z) [
        | inl lt ↦
            let end = (cuts_have (x_ends rects) (r.x1 + 1)).1 xe.1 in
            absurd (omega (arith, right, no_cut_inside (cuts (x_ends rects)) k z x (r.x1 + 1) x_up zk xk end (omega (arith, lt))))
        | inr le ↦ le
      ];
      low = no_cut_inside (cuts (y_ends rects)) l y v r.y0 y_up yl vl ((cuts_have (y_ends rects) r.y0).1 ye.0) h.low;
      high = elim (cases_lt r.y1 v) [
        | inl lt ↦
            let end = (cuts_have (y_ends rects) (r.y1 + 1)).1 ye.1 in
            absurd (omega (arith, high, no_cut_inside (cuts (y_ends rects)) l v y (r.y1 + 1) y_up vl yl end (omega (arith, lt))))
        | inr le ↦ le
      ];
    }

-- points of one column and one row of the grid are in the same rectangles
pub undivided : (rects : List Rect) (r : Rect) (k l x y z v : ℕ) → Contains rects r → IsInSpan (grid_of rects).xs k x
    → IsInSpan (grid_of rects).xs k z → IsInSpan (grid_of rects).ys l y → IsInSpan (grid_of rects).ys l v → HasBoth r x y z v
undivided rects r k l x y z v has xk zk yl vl = (moved rects r k l x y z v has xk zk yl vl, moved rects r k l z v x y has zk xk vl yl)

-- a binary search finds where the numbers up to `x` end
pub parted : (x : ℕ) (ns : List ℕ) (n : ℕ) → IsPartitionPoint (λ q. nat_le q x ≡ true) (λ q. nat_le q x ≡ false) ns n
    → IsPartitionPoint (λ m. m ≤ x) (λ m. x < m) ns n
parted x ns n parts = (λ k d low high. leb-true _ _ (parts.0 k d low high), λ k d low high. leb-false _ _ (parts.1 k d low high))

pub can_search : (x : ℕ) (ns : List ℕ) → IsStrictlyIncreasing ns → IsPartitionedBy (λ q. nat_le q x) ns
can_search x ns up = IsPartitionedBy-leb (λ q. q) ns x (non_decreasing_from_sorted ns (sorted_from_strictly_increasing ns up))

-- ---- The cuts of small rectangles are small.
