-- The cells that rectangles touch are blocks of columns and rows.
use Rattle.std.proofs.Common.{◌≡◌, ℕ, ◌+◌, ◌-◌, ◌*◌, ◌/◌, ◌%◌, ◌^◌, ◌<◌, ◌≤◌, ◌||◌, ◌&&◌, ◌↔◌, ◌⊎◌, nat_lt, Bool, true, false, List, Contains, length, get_or, refl, sym, ap, ◌∙◌, subst, inl, inr, arith}
use Rattle.std.specs.Prelude.{nat_le}
use Rattle.std.specs.List.Sorted.{IsStrictlyIncreasing}
use Rattle.std.proofs.lemmas.Bool.{cases_lt, and_from, and_parts, or_right, le-leb, lt-ltb, leb-true, ltb-true, true≢false}
use Rattle.point_set.specs.declared.rect.Rect.{Rect}
use Rattle.point_set.specs.Rects.{AreSmall, Has, Holds, rect_at, rect_points}
use Rattle.point_set.proofs.lemmas.Ahead.{spread}
use Rattle.point_set.proofs.lemmas.Columns.{of_has, to_has}
use Rattle.grid.specs.Cuts.{Cuts, IsInSpan, grid_of, span_count, x_ends, y_ends}
use Rattle.grid.proofs.lemmas.Cutting.{cuts_ascend}
use Rattle.cell_bits.specs.Bits.{IsInBlock, TouchesCell, TouchesRect, TouchesSome}

-- ---- Tests as facts.

or_parts : (b c : Bool) → (b || c) ≡ true → (b ≡ true) ⊎ (c ≡ true)
or_parts true c e = inl refl
or_parts false c e = inr e

or_left : (b c : Bool) → b ≡ true → (b || c) ≡ true
or_left true c e = refl
or_left false c e = absurd (true≢false (sym e))

-- ---- One column of a block more.

pub no_block : (rows left low high n : ℕ) (P : Type 0) → P ↔ (P ⊎ IsInBlock rows left left low high n)
no_block rows left low high n P = (
  λ p. inl p,
  λ s. elim s [
    | inl p ↦ p
    | inr b ↦ let from = b.from in let to = b.to in absurd (omega (arith, from, to))
  ],
)

pub column_more : (rows left k low high n : ℕ) (old now new : Bool) → left ≤ k
    → (now ≡ true) ↔ ((old ≡ true) ⊎ IsInBlock rows left k low high n)
    → new ≡ (now || (nat_le (k * rows + low) n && nat_lt n (k * rows + high + 1)))
    → (new ≡ true) ↔ ((old ≡ true) ⊎ IsInBlock rows left (k + 1) low high n)
column_more rows left k low high n old now new le so step = (forth, back)
  where
    here : Bool
    here = nat_le (k * rows + low) n && nat_lt n (k * rows + high + 1)

    forth : new ≡ true → (old ≡ true) ⊎ IsInBlock rows left (k + 1) low high n
    forth e = elim (or_parts now (nat_le (k * rows + low) n && nat_lt n (k * rows + high + 1)) (sym step ∙ e)) [
      | inl set ↦ elim (so.0 set) [
        | inl was ↦ inl was
        | inr b ↦ let to = b.to in
            inr (record { k = b.k; l = b.l; from = b.from; to = omega (arith, to); above = b.above; below = b.below; number = b.number })
      ]
      | inr more ↦
          let parts = and_parts (nat_le (k * rows + low) n) (nat_lt n (k * rows + high + 1)) more in
          let low_end = leb-true _ _ parts.0 in
          let high_end = ltb-true _ _ parts.1 in
          inr (record {
            k = k;
            l = n - k * rows;
            from = le;
            to = omega arith;
            above = omega (arith, low_end);
            below = omega (arith, low_end, high_end);
            number = omega (arith, low_end);
          })
    ]

    back : (old ≡ true) ⊎ IsInBlock rows left (k + 1) low high n → new ≡ true
    back s = step ∙ elim s [
      | inl was ↦ or_left now _ (so.1 (inl was))
      | inr b ↦ elim (cases_lt b.k k) [
        | inl earlier ↦ or_left now _ (so.1 (inr (record {
          k = b.k;
          l = b.l;
          from = b.from;
          to = earlier;
          above = b.above;
          below = b.below;
          number = b.number;
        })))
        | inr not_earlier ↦
            let to = b.to in
            let is : b.k ≡ k = omega (arith, not_earlier, to) in
            let number : n ≡ k * rows + b.l = b.number ∙ ap (λ m. m * rows + b.l) is in
            let above = b.above in
            let below = b.below in
            or_right now _ (and_from (nat_le (k * rows + low) n) (nat_lt n (k * rows + high + 1))
            (le-leb _ _ (omega (arith, number, above))) (lt-ltb _ _ (omega (arith, number, below))))
      ]
    ]

-- ---- Spans between two numbers.

-- A greater number is in no earlier span.
pub in_order : (ns : List ℕ) (k m x y : ℕ) → IsStrictlyIncreasing ns → IsInSpan ns k x → IsInSpan ns m y → x ≤ y → k ≤ m
in_order ns k m x y up here there le = elim (cases_lt m k) [
  | inl less ↦ absurd (let s = spread ns (m + 1) k up (omega (arith, less)) (let h = here.0 in omega (arith, h)) in
      let at = here.1 in let end = there.2 in omega (arith, s, at, end, le))
  | inr so ↦ so
]

-- A span between those of two numbers has a number between these.
some_between : (ns : List ℕ) (k from to a b : ℕ) → IsStrictlyIncreasing ns → IsInSpan ns from a → IsInSpan ns to b → a ≤ b
    → from ≤ k → k ≤ to → (x : ℕ) × IsInSpan ns k x × (a ≤ x) × (x ≤ b)
some_between ns k from to a b up first last le low high = elim (cases_lt from k) [
  | inl behind ↦
      let in_list = last.0 in
      let after = spread ns (from + 1) k up (omega (arith, behind)) (omega (arith, in_list, high)) in
      let until = spread ns k to up high (omega (arith, in_list)) in
      let end = first.2 in
      let begin = last.1 in
      let next = spread ns k (k + 1) up (omega arith) (omega (arith, in_list, high)) in (
        get_or ns k 0,
        (omega (arith, in_list, high), omega arith, omega (arith, next)),
        omega (arith, after, end),
        omega (arith, until, begin),
      )
  | inr not_behind ↦
      let is : from ≡ k = omega (arith, low, not_behind) in
      (a, subst (λ m. IsInSpan ns m a) is first, omega arith, le)
]

-- ---- Rectangles.

column_is : (x y : ℕ) → y < 2 ^ 32 → (x * 2 ^ 32 + y) / 2 ^ 32 ≡ x
column_is x y fits = omega arith

row_is : (x y : ℕ) → y < 2 ^ 32 → (x * 2 ^ 32 + y) % 2 ^ 32 ≡ y
row_is x y fits = omega arith

-- The ends of a rectangle that has a point, and the columns and rows of the grid that have them.
pub record HasEnds (grid : Cuts) (r : Rect) (left right low high : ℕ) : Type 0 where
  pub wide : r.x0 ≤ r.x1
  pub tall : r.y0 ≤ r.y1
  pub small : r.y1 < 2 ^ 32
  pub at_left : IsInSpan grid.xs left r.x0
  pub at_right : IsInSpan grid.xs right r.x1
  pub at_low : IsInSpan grid.ys low r.y0
  pub at_high : IsInSpan grid.ys high r.y1

-- A rectangle touches just the cells of the block between its ends.
pub touched : (all : List Rect) (grid : Cuts) (r : Rect) (rows left right low high n : ℕ) → grid ≡ grid_of all → rows ≡ span_count grid.ys
    → HasEnds grid r left right low high → IsInBlock rows left (right + 1) low high n ↔ TouchesRect grid r n
touched all grid r rows left right low high n is same ends = (forth, back)
  where
    xs_up : IsStrictlyIncreasing grid.xs
    xs_up = subst (λ (g : Cuts). IsStrictlyIncreasing g.xs) (sym is) (cuts_ascend (x_ends all))

    ys_up : IsStrictlyIncreasing grid.ys
    ys_up = subst (λ (g : Cuts). IsStrictlyIncreasing g.ys) (sym is) (cuts_ascend (y_ends all))

    forth : IsInBlock rows left (right + 1) low high n → TouchesRect grid r n
    forth b =
        let to = b.to in
        let x = some_between grid.xs b.k left right r.x0 r.x1 xs_up ends.at_left ends.at_right ends.wide b.from (omega (arith, to)) in
        let y = some_between grid.ys b.l low high r.y0 r.y1 ys_up ends.at_low ends.at_high ends.tall b.above b.below in
        let fits : y.0 < 2 ^ 32 = (let high_end = y.3 in let small = ends.small in omega (arith, high_end, small)) in
        let column = column_is x.0 y.0 fits in
        let row = row_is x.0 y.0 fits in (
          x.0 * 2 ^ 32 + y.0,
          record {
            k = b.k;
            l = b.l;
            column = subst (IsInSpan grid.xs b.k) (sym column) x.1;
            row = subst (IsInSpan grid.ys b.l) (sym row) y.1;
            number = b.number ∙ ap (λ m. b.k * m + b.l) same;
          },
          subst (λ z. Holds r z ((x.0 * 2 ^ 32 + y.0) % 2 ^ 32)) (sym column)
              (subst (Holds r x.0) (sym row) (record { left = x.2; right = x.3; low = y.2; high = y.3 })),
        )

    back : TouchesRect grid r n → IsInBlock rows left (right + 1) low high n
    back t =
        let p = t.0 in
        let cell = t.1 in
        let holds = t.2 in
        let until = in_order grid.xs cell.k right (p / 2 ^ 32) r.x1 xs_up cell.column ends.at_right holds.right in
        record {
          k = cell.k;
          l = cell.l;
          from = in_order grid.xs left cell.k r.x0 (p / 2 ^ 32) xs_up ends.at_left cell.column holds.left;
          to = omega (arith, until);
          above = in_order grid.ys low cell.l r.y0 (p % 2 ^ 32) ys_up ends.at_low cell.row holds.low;
          below = in_order grid.ys cell.l high (p % 2 ^ 32) r.y1 ys_up cell.row ends.at_high holds.high;
          number = cell.number ∙ sym (ap (λ m. cell.k * m + cell.l) same);
        }

-- ---- One rectangle more.

pub no_rects : (grid : Cuts) (rects : List Rect) (n : ℕ) (P : Type 0) → P ↔ (P ⊎ TouchesSome grid rects 0 n)
no_rects grid rects n P = (λ p. inl p, λ s. elim s [ inl p ↦ p | inr t ↦ absurd (let lt = t.3 in omega (arith, lt)) ])

pub rect_more : (grid : Cuts) (rects : List Rect) (i n : ℕ) (old now new : Type 0) → i < length rects
    → now ↔ (old ⊎ TouchesSome grid rects i n) → new ↔ (now ⊎ TouchesRect grid (rect_at rects i) n)
    → new ↔ (old ⊎ TouchesSome grid rects (i + 1) n)
rect_more grid rects i n old now new lt so step = (forth, back)
  where
    forth : new → old ⊎ TouchesSome grid rects (i + 1) n
    forth e = elim (step.0 e) [
      | inl set ↦ elim (so.0 set) [
        | inl was ↦ inl was
        | inr t ↦ inr (t.0, t.1, t.2, (let before = t.3 in omega (arith, before)))
      ]
      | inr t ↦ inr (t.0, t.1, record { place = i; within = lt; holds = t.2 }, omega arith)
    ]

    back : old ⊎ TouchesSome grid rects (i + 1) n → new
    back s = step.1 (elim s [
      | inl was ↦ inl (so.1 (inl was))
      | inr t ↦ elim (cases_lt t.2.place i) [
        | inl earlier ↦ inl (so.1 (inr (t.0, t.1, t.2, earlier)))
        | inr not_earlier ↦
            let last = t.3 in
            let is : t.2.place ≡ i = omega (arith, not_earlier, last) in
            inr (t.0, t.1, subst (λ k. Holds (rect_at rects k) (t.0 / 2 ^ 32) (t.0 % 2 ^ 32)) is t.2.holds)
      ]
    ])

-- ---- The points of the rectangles.

column_of : (p : ℕ) → p ≡ p / 2 ^ 32 * 2 ^ 32 + p % 2 ^ 32
column_of p = omega arith

pub touched_points : (grid : Cuts) (rects : List Rect) (n : ℕ) (old : Bool) → AreSmall rects → old ≡ false
    → ((old ≡ true) ⊎ TouchesSome grid rects (length rects) n) ↔ TouchesCell grid (rect_points rects) n
touched_points grid rects n old small none = (forth, back)
  where
    forth : (old ≡ true) ⊎ TouchesSome grid rects (length rects) n → TouchesCell grid (rect_points rects) n
    forth s = elim s [
      | inl set ↦ absurd (true≢false (sym set ∙ none))
      | inr t ↦ (t.0, t.1, subst (Contains (rect_points rects)) (sym (column_of t.0)) (of_has rects (t.0 / 2 ^ 32) (t.0 % 2 ^ 32) t.2))
    ]

    back : TouchesCell grid (rect_points rects) n → (old ≡ true) ⊎ TouchesSome grid rects (length rects) n
    back t =
        let p = t.0 in
        let at = to_has rects p small t.2 in
        let is = at.is in
        let fits = at.y_fits in
        let x : at.x ≡ p / 2 ^ 32 = omega (arith, is, fits) in
        let y : at.y ≡ p % 2 ^ 32 = omega (arith, is, fits) in
        let has : Has rects (p / 2 ^ 32) (p % 2 ^ 32) =
        subst (λ v. Has rects (p / 2 ^ 32) v) y (subst (λ z. Has rects z at.y) x at.has) in
        inr (p, t.1, has, has.within)

-- What is touched in one way is touched in the other.
pub exchanged : {P Q A B : Type 0} → P ↔ (Q ⊎ A) → A ↔ B → P ↔ (Q ⊎ B)
exchanged so same = (
  λ p. elim (so.0 p) [ inl q ↦ inl q | inr a ↦ inr (same.0 a) ],
  λ s. so.1 (elim s [ inl q ↦ inl q | inr b ↦ inr (same.1 b) ]),
)

pub both_ways : {P Q R : Type 0} → P ↔ Q → Q ↔ R → P ↔ R
both_ways one two = (λ p. two.0 (one.0 p), λ r. one.1 (two.1 r))
