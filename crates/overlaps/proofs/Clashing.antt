-- What one pass over the rectangles of some columns tells.
use Rattle.std.proofs.Common.{◌≡◌, ℕ, ◌+◌, ◌<◌, ◌≤◌, ◌⊎◌, max, nat_le, nat_lt, true, false, Bool, List, [], ◌∷◌, Some, None, inl, inr, refl, sym, ap, subst, arith}
use Rattle.std.proofs.lemmas.Bool.{cases_Bool, cases_lt, and_parts, leb-true, ltb-true, ltb-false, lt-ltb, le-ltb, both_ways}
use Rattle.std.proofs.lemmas.Option.{same_Some}
use Rattle.point_set.specs.declared.rect.Rect.{Rect}
use Rattle.overlaps.specs.declared.node.Ends.{Ends}
use Rattle.overlaps.specs.declared.point.Point.{Point}
use Rattle.overlaps.specs.Meeting.{Pairwise, AreApartAt, IsNoHigher, IsIn, spans, ends_with, column_with, clashes, clash_from, clash_point, no_ends}
use Rattle.std.specs.List.{AllByRecursion}

-- where one of two rectangles has all columns, the first ends below the second
abbrev pub IsBelow : ℕ → ℕ → Rect → Rect → Type 0
IsBelow lo hi r s = (spans lo hi r ≡ true) ⊎ (spans lo hi s ≡ true) → r.y1 < s.y0

-- a rectangle begins above the ends
pub record IsAbove (lo hi : ℕ) (e : Ends) (r : Rect) : Type 0 where
  pub any : spans lo hi r ≡ true → e.any ≤ r.y0
  pub spanning : e.spanning ≤ r.y0

-- ---- No clash.

above_here : (lo hi : ℕ) (e : Ends) (r : Rect) → e.spanning ≤ e.any → clashes lo hi e r ≡ false → IsAbove lo hi e r
above_here lo hi e r le none = elim (cases_Bool (spans lo hi r)) [
  | inl so ↦
      let h : nat_lt r.y0 e.any ≡ false = rw so at none in
      let up = ltb-false r.y0 e.any h in
      record { any = λ _. up; spanning = omega arith }
  | inr nay ↦
      let h : nat_lt r.y0 e.spanning ≡ false = rw nay at none in
      record { any = λ so. absurd (both_ways (spans lo hi r) nay so); spanning = ltb-false r.y0 e.spanning h }
]

ends_in_order : (lo hi : ℕ) (e : Ends) (r : Rect) → e.spanning ≤ e.any → (ends_with lo hi e r).spanning ≤ (ends_with lo hi e r).any
ends_in_order lo hi e r le = elim (cases_Bool (spans lo hi r)) [ inl so ↦ rw so (omega arith) | inr nay ↦ rw nay (omega arith) ]

ends_grow : (lo hi : ℕ) (e : Ends) (r : Rect) → e.spanning ≤ (ends_with lo hi e r).spanning
ends_grow lo hi e r = elim (cases_Bool (spans lo hi r)) [ inl so ↦ rw so (omega arith) | inr nay ↦ rw nay (omega arith) ]

ends_past : (lo hi : ℕ) (e : Ends) (r : Rect) → spans lo hi r ≡ true → r.y1 < (ends_with lo hi e r).spanning
ends_past lo hi e r so = rw so (omega arith)

above_before : (lo hi : ℕ) (e : Ends) (r s : Rect) → IsAbove lo hi (ends_with lo hi e r) s → IsAbove lo hi e s
above_before lo hi e r s h = record { any = λ so. omega (arith, h.any so); spanning = omega (arith, h.spanning, ends_grow lo hi e r) }

below_next : (lo hi : ℕ) (e : Ends) (r s : Rect) → IsAbove lo hi (ends_with lo hi e r) s → IsBelow lo hi r s
below_next lo hi e r s h (inl first) = omega (arith, h.spanning, ends_past lo hi e r first)
below_next lo hi e r s h (inr second) = omega (arith, h.any second)

each_before : (lo hi : ℕ) (e : Ends) (r : Rect) (ss : List Rect) → AllByRecursion (IsAbove lo hi (ends_with lo hi e r)) ss → AllByRecursion (IsAbove lo hi e) ss
each_before lo hi e r [] h = tt
each_before lo hi e r (s ∷ ss) h = (above_before lo hi e r s h.0, each_before lo hi e r ss h.1)

each_next : (lo hi : ℕ) (e : Ends) (r : Rect) (ss : List Rect) → AllByRecursion (IsAbove lo hi (ends_with lo hi e r)) ss → AllByRecursion (IsBelow lo hi r) ss
each_next lo hi e r [] h = tt
each_next lo hi e r (s ∷ ss) h = (below_next lo hi e r s h.0, each_next lo hi e r ss h.1)

pub none_clash : (lo hi : ℕ) (e : Ends) (rects : List Rect) → e.spanning ≤ e.any → clash_from lo hi e rects ≡ None
    → AllByRecursion (IsAbove lo hi e) rects × Pairwise (IsBelow lo hi) rects
none_clash lo hi e [] le none = (tt, tt)
none_clash lo hi e (r ∷ rs) le none = elim (cases_Bool (clashes lo hi e r)) [
  | inl so ↦ absurd (no_some (clash_point lo hi e r) (rw so at none))
  | inr nay ↦
      let later : clash_from lo hi (ends_with lo hi e r) rs ≡ None = rw nay at none in
      let rest = none_clash lo hi (ends_with lo hi e r) rs (ends_in_order lo hi e r le) later in
      ((above_here lo hi e r le nay, each_before lo hi e r rs rest.0), (each_next lo hi e r rs rest.0, rest.1))
]
  where
    no_some : (p : Point) → Some p ≡ None → ⊥
    no_some p h = cc

-- ---- A clash.

-- some rectangle that ends there begins no higher than these, and is apart from them at the point
pub record Ended (lo hi : ℕ) (end column : ℕ) (wide : Bool) (p : Point) (rects : List Rect) : Type 0 where
  pub by : Rect
  pub here : by.y1 + 1 ≡ end
  pub first : wide ≡ false → by.x0 ≡ column
  pub inside : IsIn lo hi by
  pub all : wide ≡ true → spans lo hi by ≡ true
  pub order : AllByRecursion (IsNoHigher by) rects
  pub apart : AllByRecursion (AreApartAt p by) rects

-- each of both ends is that of some rectangle, or there was none
pub record AreEnds (lo hi : ℕ) (e : Ends) (p : Point) (rects : List Rect) : Type 0 where
  pub any : (e.any ≡ 0) ⊎ Ended lo hi e.any e.column false p rects
  pub spanning : (e.spanning ≡ 0) ⊎ Ended lo hi e.spanning 0 true p rects

-- two rectangles of some columns, the first of which has all of these, share a point of a row
meet_first : (lo hi : ℕ) (p : Point) (r s : Rect) → lo ≤ hi → IsIn lo hi r → IsIn lo hi s → spans lo hi r ≡ true
    → r.y0 ≤ s.y0 → s.y0 ≤ r.y1 → p.x ≡ max s.x0 lo → p.y ≡ s.y0 → AreApartAt p r s → ⊥
meet_first lo hi p r s le a b wide low high x y apart =
    let w = and_parts (nat_le r.x0 lo) (nat_le hi r.x1) wide in
    let w0 = leb-true _ _ w.0 in
    let w1 = leb-true _ _ w.1 in
    let s0 = b.begins in
    let s1 = b.ends in
    let s2 = b.wide in
    let s3 = b.tall in
    apart (record { left = omega arith; right = omega arith; low = omega arith; high = omega arith })
    (record { left = omega arith; right = omega arith; low = omega arith; high = omega arith })

-- or the second has
meet_second : (lo hi : ℕ) (p : Point) (r s : Rect) → lo ≤ hi → IsIn lo hi r → IsIn lo hi s → spans lo hi s ≡ true
    → r.y0 ≤ s.y0 → s.y0 ≤ r.y1 → p.x ≡ max r.x0 lo → p.y ≡ s.y0 → AreApartAt p r s → ⊥
meet_second lo hi p r s le a b wide low high x y apart =
    let w = and_parts (nat_le s.x0 lo) (nat_le hi s.x1) wide in
    let w0 = leb-true _ _ w.0 in
    let w1 = leb-true _ _ w.1 in
    let r0 = a.begins in
    let r1 = a.ends in
    let r2 = a.wide in
    let s3 = b.tall in
    apart (record { left = omega arith; right = omega arith; low = omega arith; high = omega arith })
    (record { left = omega arith; right = omega arith; low = omega arith; high = omega arith })

clash_here : (lo hi : ℕ) (e : Ends) (p : Point) (r : Rect) (rs : List Rect) → lo ≤ hi → AreEnds lo hi e p (r ∷ rs)
    → IsIn lo hi r → clashes lo hi e r ≡ true → clash_point lo hi e r ≡ p → ⊥
clash_here lo hi e p r rs le ends inside clash is =
    let y : p.y ≡ r.y0 = sym (ap (λ (q : Point). q.y) is) in
    elim (cases_Bool (spans lo hi r)) [
      | inl so ↦
          let h : nat_lt r.y0 e.any ≡ true = rw so at clash in
          let lt = ltb-true r.y0 e.any h in
          let x : max e.column lo ≡ p.x = rw so at (ap (λ (q : Point). q.x) is) in
          elim ends.any [
            | inl none ↦ omega (arith, none, lt)
            | inr s ↦
                let end = s.here in
                let first = s.first refl in
                meet_second lo hi p s.by r le s.inside inside so s.order.0 (omega arith) (omega arith) y s.apart.0
          ]
      | inr nay ↦
          let h : nat_lt r.y0 e.spanning ≡ true = rw nay at clash in
          let lt = ltb-true r.y0 e.spanning h in
          let x : max r.x0 lo ≡ p.x = rw nay at (ap (λ (q : Point). q.x) is) in
          elim ends.spanning [
            | inl none ↦ omega (arith, none, lt)
            | inr s ↦
                let end = s.here in
                meet_first lo hi p s.by r le s.inside inside (s.all refl) s.order.0 (omega arith) (omega arith) y s.apart.0
          ]
    ]

ended_behind : (lo hi end column : ℕ) (wide : Bool) (p : Point) (r : Rect) (rs : List Rect)
    → Ended lo hi end column wide p (r ∷ rs) → Ended lo hi end column wide p rs
ended_behind lo hi end column wide p r rs h = record {
  by = h.by;
  here = h.here;
  first = h.first;
  inside = h.inside;
  all = h.all;
  order = h.order.1;
  apart =
      h.apart.1;
}

-- the higher one of an end and that of the next rectangle
ended_max : (lo hi end column new : ℕ) (wide : Bool) (p : Point) (r : Rect) (rs : List Rect) → IsIn lo hi r
    → (wide ≡ true → spans lo hi r ≡ true) → (end < r.y1 + 1 → wide ≡ false → r.x0 ≡ new)
    → (r.y1 + 1 ≤ end → column ≡ new) → AllByRecursion (IsNoHigher r) rs → AllByRecursion (AreApartAt p r) rs
    → (end ≡ 0) ⊎ Ended lo hi end column wide p (r ∷ rs)
    → (max end (r.y1 + 1) ≡ 0) ⊎ Ended lo hi (max end (r.y1 + 1)) new wide p rs
ended_max lo hi end column new wide p r rs inside all higher still order apart before = elim (cases_lt end (r.y1 + 1)) [
  | inl lt ↦ inr (record {
    by = r;
    here = omega arith;
    first = higher lt;
    inside = inside;
    all = all;
    order = order;
    apart = apart;
  })
  | inr ge ↦ elim before [
    | inl none ↦ absurd (omega (arith, none))
    | inr s ↦
        let same : end ≡ max end (r.y1 + 1) = omega arith in
        inr (subst (λ c. Ended lo hi (max end (r.y1 + 1)) c wide p rs) (still ge)
        (subst (λ n. Ended lo hi n column wide p rs) same (ended_behind lo hi end column wide p r rs s)))
  ]
]

ended_still : (lo hi end column : ℕ) (wide : Bool) (p : Point) (r : Rect) (rs : List Rect)
    → (end ≡ 0) ⊎ Ended lo hi end column wide p (r ∷ rs) → (end ≡ 0) ⊎ Ended lo hi end column wide p rs
ended_still lo hi end column wide p r rs (inl none) = inl none
ended_still lo hi end column wide p r rs (inr s) = inr (ended_behind lo hi end column wide p r rs s)

column_higher : (e : Ends) (r : Rect) → e.any < r.y1 + 1 → r.x0 ≡ column_with e r
column_higher e r lt = rw (lt-ltb e.any (r.y1 + 1) lt) refl

column_still : (e : Ends) (r : Rect) → r.y1 + 1 ≤ e.any → e.column ≡ column_with e r
column_still e r le = rw (le-ltb e.any (r.y1 + 1) le) refl

ends_more : (lo hi : ℕ) (e : Ends) (p : Point) (r : Rect) (rs : List Rect) → AreEnds lo hi e p (r ∷ rs) → IsIn lo hi r
    → AllByRecursion (IsNoHigher r) rs → AllByRecursion (AreApartAt p r) rs → AreEnds lo hi (ends_with lo hi e r) p rs
ends_more lo hi e p r rs ends inside order apart = record {
  any = ended_max lo hi e.any e.column (column_with e r) false p r rs inside (λ f. absurd (both_ways false refl f))
      (λ lt _. column_higher e r lt) (column_still e r) order apart ends.any;
  spanning = elim (cases_Bool (spans lo hi r)) [
    | inl so ↦
        rw so (ended_max lo hi e.spanning 0 0 true p r rs inside (λ _. so) (λ _ f. absurd (both_ways true f refl)) (λ _. refl) order apart ends.spanning)
    | inr nay ↦ rw nay (ended_still lo hi e.spanning 0 true p r rs ends.spanning)
  ];
}

pub some_clash : (lo hi : ℕ) (e : Ends) (p : Point) (rects : List Rect) → lo ≤ hi → AreEnds lo hi e p rects
    → AllByRecursion (IsIn lo hi) rects → Pairwise IsNoHigher rects → clash_from lo hi e rects ≡ Some p
    → Pairwise (AreApartAt p) rects → ⊥
some_clash lo hi e p [] le ends inside order clash apart = cc
some_clash lo hi e p (r ∷ rs) le ends inside order clash apart = elim (cases_Bool (clashes lo hi e r)) [
  | inl so ↦
      let here : Some (clash_point lo hi e r) ≡ Some p = rw so at clash in
      clash_here lo hi e p r rs le ends inside.0 so (same_Some (clash_point lo hi e r) p here)
  | inr nay ↦
      let later : clash_from lo hi (ends_with lo hi e r) rs ≡ Some p = rw nay at clash in
      some_clash lo hi (ends_with lo hi e r) p rs le (ends_more lo hi e p r rs ends inside.0 order.0 apart.0) inside.1
      order.1 later apart.1
]

pub none_yet : (lo hi : ℕ) (p : Point) (rects : List Rect) → AreEnds lo hi no_ends p rects
none_yet lo hi p rects = record { any = inl refl; spanning = inl refl }
