-- Rectangles of a set, and what was gone through before one of them.
use Rattle.std.proofs.Common.{◌≡◌, ℕ, zero, suc, ◌+◌, ◌-◌, ◌<◌, ◌≤◌, ◌^◌, ◌⊎◌, ◌&&◌, nat_lt, true, List, [], ◌∷◌, ◌++◌, length, Contains, inl, inr, refl, sym, subst, ◌∙◌, arith}
use Rattle.std.proofs.lemmas.Bool.{cases_Bool, cases_lt, and_parts, and_from, lt-ltb, ltb-true, le-ltb}
use Rattle.std.proofs.lemmas.List.{get_or_default}
use Rattle.std.proofs.lemmas.List.Elements.{Contains-append_left, Contains-append_right, Contains-append_cases, Contains-get_or}
use Rattle.point_set.specs.declared.rect.Rect.{Rect}
use Rattle.point_set.specs.Rects.{AreRects, Holds, rect_at}
use Rattle.point_set.proofs.lemmas.Bands.{comes_before, wide, high, x_fits, y_fits}
use Rattle.plane_gaps.specs.declared.gaps.Edge.{Edge}
use Rattle.plane_gaps.specs.Gaps.{HasPoint, IsRect, LeaveFree, box_of, end_boxes, next_boxes}

-- ---- Boxes.

abbrev no_rects : List Rect
no_rects = []

abbrev the_box : ℕ → ℕ → ℕ → ℕ → Rect
the_box x0 x1 y0 y1 = record { x0 = x0; x1 = x1 - 1; y0 = y0; y1 = y1 - 1 }

one : (r s : Rect) → Contains (r ∷ []) s → r ≡ s
one r s (zero, lt, at) = at
one r s (suc k, lt, at) = absurd (omega (arith, lt))

-- a point between these columns and rows
record IsBetween (x0 x1 y0 y1 x y : ℕ) : Type 0 where
  left : x0 ≤ x
  right : x < x1
  low : y0 ≤ y
  high : y < y1

in_box : (x0 x1 y0 y1 x y : ℕ) → x0 ≤ x → x < x1 → y0 ≤ y → y < y1 → HasPoint (box_of x0 x1 y0 y1) x y
in_box x0 x1 y0 y1 x y a b c d =
    let some : (nat_lt x0 x1 && nat_lt y0 y1) ≡ true =
    and_from _ _ (lt-ltb x0 x1 (omega (arith, a, b))) (lt-ltb y0 y1 (omega (arith, c, d))) in
    rw some (the_box x0 x1 y0 y1, (0, omega arith, refl), record { left = a; right = omega (arith, b); low = c; high = omega (arith, d) })

of_box : (x0 x1 y0 y1 : ℕ) (r : Rect) → Contains (box_of x0 x1 y0 y1) r → (x0 < x1) × (y0 < y1) × (the_box x0 x1 y0 y1 ≡ r)
of_box x0 x1 y0 y1 r h = elim (cases_Bool (nat_lt x0 x1 && nat_lt y0 y1)) [
  | inl so ↦
      let parts = and_parts (nat_lt x0 x1) (nat_lt y0 y1) so in
      let h' : Contains (the_box x0 x1 y0 y1 ∷ []) r = rw so at h in
      (ltb-true x0 x1 parts.0, ltb-true y0 y1 parts.1, one (the_box x0 x1 y0 y1) r h')
  | inr nay ↦ let h' : Contains no_rects r = rw nay at h in absurd (omega (arith, h'.1))
]

box_between : (x0 x1 y0 y1 x y : ℕ) → HasPoint (box_of x0 x1 y0 y1) x y → IsBetween x0 x1 y0 y1 x y
box_between x0 x1 y0 y1 x y h =
    let b = of_box x0 x1 y0 y1 h.0 h.1 in
    let holds : Holds (the_box x0 x1 y0 y1) x y = subst (λ (r : Rect). Holds r x y) (sym b.2) h.2 in
    record { left = holds.left; right = omega (arith, holds.right, b.0); low = holds.low; high = omega (arith, holds.high, b.1) }

box_rect : (x0 x1 y0 y1 : ℕ) (r : Rect) → x1 ≤ 2 ^ 32 → y1 ≤ 2 ^ 32 → Contains (box_of x0 x1 y0 y1) r → IsRect r
box_rect x0 x1 y0 y1 r a b h =
    let o = of_box x0 x1 y0 y1 r h in
    subst IsRect o.2 (record {
      wide = omega (arith, o.0);
      tall = omega (arith, o.1);
      x_fits = omega (arith, o.0, a);
      y_fits =
          omega (arith, o.1, b);
    })

has_left : (xs ys : List Rect) (x y : ℕ) → HasPoint xs x y → HasPoint (xs ++ ys) x y
has_left xs ys x y h = (h.0, Contains-append_left xs ys h.0 h.1, h.2)

has_right : (xs ys : List Rect) (x y : ℕ) → HasPoint ys x y → HasPoint (xs ++ ys) x y
has_right xs ys x y h = (h.0, Contains-append_right xs ys h.0 h.1, h.2)

has_either : (xs ys : List Rect) (x y : ℕ) → HasPoint (xs ++ ys) x y → HasPoint xs x y ⊎ HasPoint ys x y
has_either xs ys x y h = elim (Contains-append_cases xs ys h.0 h.1) [ inl a ↦ inl (h.0, a, h.2) | inr b ↦ inr (h.0, b, h.2) ]

-- ---- How far the plane was gone through.

-- the rectangle was gone through
abbrev pub IsBehind : Edge → Rect → Type 0
IsBehind e s = (s.x1 < e.x1) × ((s.x1 < e.x0) ⊎ (s.y1 < e.y))

-- no point of it was
abbrev pub IsAhead : Edge → Rect → Type 0
IsAhead e s = (e.x1 ≤ s.x0) ⊎ ((s.x0 ≡ e.x0) × (s.x1 + 1 ≡ e.x1) × (e.y ≤ s.y0))

-- the point was gone through
abbrev pub IsDone : Edge → ℕ → ℕ → Type 0
IsDone e x y = (x < e.x0) ⊎ ((x < e.x1) × (y < e.y))

-- the edge at the end of a rectangle
abbrev pub edge_after : Rect → Edge
edge_after r = record { x0 = r.x0; x1 = r.x1 + 1; y = r.y1 + 1 }

done_or_not : (e : Edge) (x y : ℕ) → IsDone e x y ⊎ ((e.x0 ≤ x) × (x < e.x1 → e.y ≤ y))
done_or_not e x y = elim (cases_lt x e.x0) [
  | inl left ↦ inl (inl left)
  | inr from ↦ elim (cases_lt x e.x1) [
    | inl in_it ↦ elim (cases_lt y e.y) [ inl below ↦ inl (inr (in_it, below)) | inr above ↦ inr (from, λ _. above) ]
    | inr past ↦ inr (from, λ lt. absurd (omega (arith, lt, past)))
  ]
]

-- a rectangle that is not before another
abbrev IsNotBefore : Rect → Rect → Type 0
IsNotBefore r s = (r.x1 < s.x0) ⊎ ((s.x0 ≡ r.x0) × (r.y0 ≤ s.y0))

-- what was found between the first rectangles, up to an edge
pub record ArePassed (rects gaps : List Rect) (e : Edge) (k : ℕ) : Type 0 where
  pub order : e.x0 ≤ e.x1
  pub fits : (e.x1 ≤ 2 ^ 32) × (e.y ≤ 2 ^ 32)
  pub are : (r : Rect) → Contains gaps r → IsRect r
  pub apart : (x y : ℕ) → HasPoint gaps x y → ¬ HasPoint rects x y
  pub all : (x y : ℕ) → y < 2 ^ 32 → IsDone e x y → HasPoint gaps x y ⊎ HasPoint rects x y
  pub behind : (j : ℕ) → j < k → j < length rects → IsBehind e (rect_at rects j)
  pub ahead : k < length rects → IsAhead e (rect_at rects k)

pub none_passed : (rects : List Rect) → ArePassed rects [] (record { x0 = 0; x1 = 0; y = 0 }) 0
none_passed rects = record {
  order = omega arith;
  fits = (omega arith, omega arith);
  are = λ r h. absurd (omega (arith, h.1));
  apart = λ x y h. absurd (omega (arith, h.1.1));
  all = λ x y fits done. absurd (elim done [ inl lt ↦ omega (arith, lt) | inr p ↦ omega (arith, p.0) ]);
  behind = λ j lt. absurd (omega (arith, lt));
  ahead = λ lt. inl (omega arith);
}

-- ---- The boxes before the next rectangle.

same_band : (e : Edge) (r : Rect) → r.x0 < e.x1 → next_boxes e r ≡ box_of r.x0 (r.x1 + 1) e.y r.y0
same_band e r lt = rw (lt-ltb r.x0 e.x1 lt) refl

new_band : (e : Edge) (r : Rect) → e.x1 ≤ r.x0
    → next_boxes e r ≡ box_of e.x0 e.x1 e.y (2 ^ 32) ++ box_of e.x1 r.x0 0 (2 ^ 32) ++ box_of r.x0 (r.x1 + 1) 0 r.y0
new_band e r le = rw (le-ltb r.x0 e.x1 le) refl

-- a point of these boxes: before the rectangle, and not gone through
record IsNext (e : Edge) (r : Rect) (x y : ℕ) : Type 0 where
  from : e.x0 ≤ x
  new : x < e.x1 → e.y ≤ y
  right : x ≤ r.x1
  below : r.x0 ≤ x → y < r.y0

next_is : (e : Edge) (r : Rect) (x y : ℕ) → e.x0 ≤ e.x1 → r.x0 ≤ r.x1 → IsAhead e r → HasPoint (next_boxes e r) x y → IsNext e r x y
next_is e r x y order some (inr same) h =
    let lt : r.x0 < e.x1 = omega (arith, some, same.1) in
    let b = box_between r.x0 (r.x1 + 1) e.y r.y0 x y (subst (λ rs. HasPoint rs x y) (same_band e r lt) h) in
    record { from = omega (arith, b.left, same.0); new = λ _. b.low; right = omega (arith, b.right); below = λ _. b.high }
next_is e r x y order some (inl le) h =
    let one = box_of e.x0 e.x1 e.y (2 ^ 32) in
    let two = box_of e.x1 r.x0 0 (2 ^ 32) in
    let three = box_of r.x0 (r.x1 + 1) 0 r.y0 in
    elim (has_either (one ++ two) three x y (subst (λ rs. HasPoint rs x y) (new_band e r le) h)) [
      | inl early ↦ elim (has_either one two x y early) [
        | inl a ↦
            let b = box_between e.x0 e.x1 e.y (2 ^ 32) x y a in
            record {
              from = b.left;
              new = λ _. b.low;
              right = omega (arith, b.right, le, some);
              below =
                  λ from. absurd (omega (arith, from, b.right, le));
            }
        | inr a ↦
            let b = box_between e.x1 r.x0 0 (2 ^ 32) x y a in
            record {
              from = omega (arith, b.left, order);
              new = λ lt. absurd (omega (arith, lt, b.left));
              right =
                  omega (arith, b.right, some);
              below = λ from. absurd (omega (arith, from, b.right));
            }
      ]
      | inr a ↦
          let b = box_between r.x0 (r.x1 + 1) 0 r.y0 x y a in
          record {
            from = omega (arith, b.left, le, order);
            new = λ lt. absurd (omega (arith, lt, b.left, le));
            right =
                omega (arith, b.right);
            below = λ _. b.high;
          }
    ]

is_next : (e : Edge) (r : Rect) (x y : ℕ) → IsAhead e r → y < 2 ^ 32 → IsNext e r x y → HasPoint (next_boxes e r) x y
is_next e r x y (inr same) fits n =
    let from = n.from in
    let right = n.right in
    let lt : r.x0 < e.x1 = omega (arith, same.0, same.1) in
    let at : r.x0 ≤ x = omega (arith, same.0) in
    subst (λ rs. HasPoint rs x y) (sym (same_band e r lt))
    (in_box r.x0 (r.x1 + 1) e.y r.y0 x y at (omega arith) (n.new (omega (arith, same.1))) (n.below at))
is_next e r x y (inl le) fits n =
    let one = box_of e.x0 e.x1 e.y (2 ^ 32) in
    let two = box_of e.x1 r.x0 0 (2 ^ 32) in
    let three = box_of r.x0 (r.x1 + 1) 0 r.y0 in
    let right = n.right in
    subst (λ rs. HasPoint rs x y) (sym (new_band e r le)) (elim (cases_lt x e.x1) [
      | inl old ↦ has_left (one ++ two) three x y (has_left one two x y (in_box e.x0 e.x1 e.y (2 ^ 32) x y n.from old (n.new old) fits))
      | inr new ↦ elim (cases_lt x r.x0) [
        | inl between ↦ has_left (one ++ two) three x y
            (has_right one two x y (in_box e.x1 r.x0 0 (2 ^ 32) x y new between (omega arith) fits))
        | inr at ↦ has_right (one ++ two) three x y (in_box r.x0 (r.x1 + 1) 0 r.y0 x y at (omega arith) (omega arith) (n.below at))
      ]
    ])

next_rects : (e : Edge) (r s : Rect) → (e.x1 ≤ 2 ^ 32) × (e.y ≤ 2 ^ 32) → r.x1 < 2 ^ 32 → r.y1 < 2 ^ 32 → r.x0 ≤ r.x1
    → r.y0 ≤ r.y1 → Contains (next_boxes e r) s → IsRect s
next_rects e r s fits x y wide tall h = elim (cases_lt r.x0 e.x1) [
  | inl lt ↦ box_rect r.x0 (r.x1 + 1) e.y r.y0 s (omega (arith, x)) (omega (arith, y, tall))
      (subst (λ rs. Contains rs s) (same_band e r lt) h)
  | inr le ↦
      let one = box_of e.x0 e.x1 e.y (2 ^ 32) in
      let two = box_of e.x1 r.x0 0 (2 ^ 32) in
      let three = box_of r.x0 (r.x1 + 1) 0 r.y0 in
      elim (Contains-append_cases (one ++ two) three s (subst (λ rs. Contains rs s) (new_band e r le) h)) [
        | inl early ↦ elim (Contains-append_cases one two s early) [
          | inl a ↦ box_rect e.x0 e.x1 e.y (2 ^ 32) s fits.0 (omega arith) a
          | inr a ↦ box_rect e.x1 r.x0 0 (2 ^ 32) s (omega (arith, x, wide)) (omega arith) a
        ]
        | inr a ↦ box_rect r.x0 (r.x1 + 1) 0 r.y0 s (omega (arith, x)) (omega (arith, y, tall)) a
      ]
]

-- ---- One rectangle more.

not_behind : (e : Edge) (r s : Rect) (x y : ℕ) → IsNext e r x y → IsBehind e s → Holds s x y → ⊥
not_behind e r s x y n (end, inl left) h = omega (arith, n.from, left, h.right)
not_behind e r s x y n (end, inr below) h = omega (arith, n.new (omega (arith, end, h.right)), below, h.high)

not_later : (e : Edge) (r s : Rect) (x y : ℕ) → IsNext e r x y → IsNotBefore r s → Holds s x y → ⊥
not_later e r s x y n (inl right) h = omega (arith, n.right, right, h.left)
not_later e r s x y n (inr above) h = omega (arith, n.below (omega (arith, above.0, h.left)), above.1, h.low)

not_before : (rects : List Rect) (k j : ℕ) → AreRects rects → k ≤ j → j < length rects → IsNotBefore (rect_at rects k) (rect_at rects j)
not_before rects k j are le lt = elim (cases_lt k j) [
  | inl less ↦ elim (comes_before rects k j are.0 less lt) [
    | inl left ↦ inl left
    | inr above ↦ let tall = high rects k are.0 (omega (arith, less, lt)) in inr (sym above.0, omega (arith, above.2, tall))
  ]
  | inr ge ↦ let e : j ≡ k = omega (arith, le, ge) in rw e (inr (refl, omega arith))
]

next_apart : (rects : List Rect) (e : Edge) (k x y : ℕ) → AreRects rects → IsNext e (rect_at rects k) x y
    → ((j : ℕ) → j < k → j < length rects → IsBehind e (rect_at rects j)) → ¬ HasPoint rects x y
next_apart rects e k x y are n behind h =
    let at : rect_at rects h.1.0 ≡ h.0 = get_or_default rects h.1.0 (record { x0 = 0; x1 = 0; y0 = 0; y1 = 0 }) h.0 h.1.1 ∙ h.1.2 in
    let holds : Holds (rect_at rects h.1.0) x y = subst (λ (r : Rect). Holds r x y) (sym at) h.2 in
    elim (cases_lt h.1.0 k) [
      | inl before ↦ not_behind e (rect_at rects k) (rect_at rects h.1.0) x y n (behind h.1.0 before h.1.1) holds
      | inr le ↦ not_later e (rect_at rects k) (rect_at rects h.1.0) x y n (not_before rects k h.1.0 are le h.1.1) holds
    ]

has_place : (rects : List Rect) (k x y : ℕ) → k < length rects → Holds (rect_at rects k) x y → HasPoint rects x y
has_place rects k x y lt h = (rect_at rects k, Contains-get_or rects k (record { x0 = 0; x1 = 0; y0 = 0; y1 = 0 }) lt, h)

next_all : (rects gaps : List Rect) (e : Edge) (k x y : ℕ) → ArePassed rects gaps e k
    → (rect_at rects k).x0 ≤ (rect_at rects k).x1 → k < length rects → y < 2 ^ 32 → IsDone (edge_after (rect_at rects k)) x y
    → HasPoint (gaps ++ next_boxes e (rect_at rects k)) x y ⊎ HasPoint rects x y
next_all rects gaps e k x y h some lt fits done =
    let r = rect_at rects k in
    elim (done_or_not e x y) [
      | inl old ↦ elim (h.all x y fits old) [ inl gap ↦ inl (has_left gaps (next_boxes e r) x y gap) | inr held ↦ inr held ]
      | inr new ↦ elim (cases_lt x r.x0) [
        | inl left ↦
            inl (has_right gaps (next_boxes e r) x y
            (is_next e r x y (h.ahead lt) fits (record {
              from = new.0;
              new = new.1;
              right = omega (arith, left, some);
              below =
                  λ from. absurd (omega (arith, from, left));
            })))
        | inr at ↦
            let end = in_it r x y at done in
            elim (cases_lt y r.y0) [
              | inl below ↦ inl (has_right gaps (next_boxes e r) x y
                  (is_next e r x y (h.ahead lt) fits (record { from = new.0; new = new.1; right = end.0; below = λ _. below })))
              | inr above ↦ inr (has_place rects k x y lt (record { left = at; right = end.0; low = above; high = end.1 }))
            ]
      ]
    ]
  where
    in_it : (r : Rect) (x y : ℕ) → r.x0 ≤ x → IsDone (edge_after r) x y → (x ≤ r.x1) × (y ≤ r.y1)
    in_it r x y at (inl left) = absurd (omega (arith, at, left))
    in_it r x y at (inr both) = (omega (arith, both.0), omega (arith, both.1))

pub next_passed : (rects gaps new : List Rect) (e f : Edge) (k : ℕ) → AreRects rects → ArePassed rects gaps e k → k < length rects
    → new ≡ gaps ++ next_boxes e (rect_at rects k) → f ≡ edge_after (rect_at rects k) → ArePassed rects new f (k + 1)
next_passed rects gaps new e f k are h lt is after =
    let r = rect_at rects k in
    let some = wide rects k are.0 lt in
    let tall = high rects k are.0 lt in
    let x = x_fits rects k are.1 lt in
    let y = y_fits rects k are.1 lt in
    rw (is, after) (record {
      order = omega (arith, some);
      fits = (omega (arith, x), omega (arith, y));
      are = λ s in_s. elim (Contains-append_cases gaps (next_boxes e r) s in_s) [
        | inl old ↦ h.are s old
        | inr added ↦
            next_rects e r s h.fits x y some tall added
      ];
      apart = λ a b has. elim (has_either gaps (next_boxes e r) a b has) [
        | inl old ↦ h.apart a b old
        | inr added ↦ next_apart rects e k a b are (next_is e r a b h.order some (h.ahead lt) added) h.behind
      ];
      all = λ a b fits done. next_all rects gaps e k a b h some lt fits done;
      behind = λ j less within. elim (cases_lt j k) [
        | inl before ↦ elim (comes_before rects j k are.0 before lt) [
          | inl left ↦ (omega (arith, left, some), inl left)
          | inr below ↦ (omega (arith, below.1), inr (omega (arith, below.2, tall)))
        ]
        | inr ge ↦ let same : j ≡ k = omega (arith, less, ge) in rw same (omega arith, inr (omega arith))
      ];
      ahead = λ more. elim (comes_before rects k (k + 1) are.0 (omega arith) more) [
        | inl left ↦ inl (omega (arith, left))
        | inr below ↦ inr (sym below.0, omega (arith, below.1), omega (arith, below.2))
      ];
    })

-- ---- The rest.

end_is : (e : Edge) (x y : ℕ) → e.x0 ≤ e.x1 → HasPoint (end_boxes e) x y → (e.x0 ≤ x) × (x < e.x1 → e.y ≤ y)
end_is e x y order h = elim (has_either (box_of e.x0 e.x1 e.y (2 ^ 32)) (box_of e.x1 (2 ^ 32) 0 (2 ^ 32)) x y h) [
  | inl a ↦ let b = box_between e.x0 e.x1 e.y (2 ^ 32) x y a in (b.left, λ _. b.low)
  | inr a ↦ let b = box_between e.x1 (2 ^ 32) 0 (2 ^ 32) x y a in (omega (arith, b.left, order), λ lt. absurd (omega (arith, lt, b.left)))
]

is_end : (e : Edge) (x y : ℕ) → x < 2 ^ 32 → y < 2 ^ 32 → (e.x0 ≤ x) × (x < e.x1 → e.y ≤ y) → HasPoint (end_boxes e) x y
is_end e x y x_in y_in h = elim (cases_lt x e.x1) [
  | inl old ↦ has_left (box_of e.x0 e.x1 e.y (2 ^ 32)) (box_of e.x1 (2 ^ 32) 0 (2 ^ 32)) x y
      (in_box e.x0 e.x1 e.y (2 ^ 32) x y h.0 old (h.1 old) y_in)
  | inr new ↦ has_right (box_of e.x0 e.x1 e.y (2 ^ 32)) (box_of e.x1 (2 ^ 32) 0 (2 ^ 32)) x y
      (in_box e.x1 (2 ^ 32) 0 (2 ^ 32) x y new x_in (omega arith) y_in)
]

end_apart : (rects : List Rect) (e : Edge) (k x y : ℕ) → length rects ≤ k → (e.x0 ≤ x) × (x < e.x1 → e.y ≤ y)
    → ((j : ℕ) → j < k → j < length rects → IsBehind e (rect_at rects j)) → ¬ HasPoint rects x y
end_apart rects e k x y past n behind h =
    let at : rect_at rects h.1.0 ≡ h.0 = get_or_default rects h.1.0 (record { x0 = 0; x1 = 0; y0 = 0; y1 = 0 }) h.0 h.1.1 ∙ h.1.2 in
    let holds : Holds (rect_at rects h.1.0) x y = subst (λ (r : Rect). Holds r x y) (sym at) h.2 in
    let b = behind h.1.0 (omega (arith, h.1.1, past)) h.1.1 in
    elim b.1 [
      | inl left ↦ omega (arith, n.0, left, holds.right)
      | inr below ↦ omega (arith, n.1 (omega (arith, b.0, holds.right)), below, holds.high)
    ]

pub all_free : (rects gaps new : List Rect) (e : Edge) (k : ℕ) → ArePassed rects gaps e k → length rects ≤ k
    → new ≡ gaps ++ end_boxes e → LeaveFree rects new
all_free rects gaps new e k h past is = rw is (record {
  are = λ s in_s. elim (Contains-append_cases gaps (end_boxes e) s in_s) [
    | inl old ↦ h.are s old
    | inr added ↦ elim (Contains-append_cases (box_of e.x0 e.x1 e.y (2 ^ 32)) (box_of e.x1 (2 ^ 32) 0 (2 ^ 32)) s added) [
      | inl a ↦ box_rect e.x0 e.x1 e.y (2 ^ 32) s h.fits.0 (omega arith) a
      | inr a ↦ box_rect e.x1 (2 ^ 32) 0 (2 ^ 32) s (omega arith) (omega arith) a
    ]
  ];
  apart = λ x y has. elim (has_either gaps (end_boxes e) x y has) [
    | inl old ↦ h.apart x y old
    | inr added ↦ end_apart rects e k x y past (end_is e x y h.order added) h.behind
  ];
  all = λ x y x_in y_in. elim (done_or_not e x y) [
    | inl old ↦ elim (h.all x y y_in old) [ inl gap ↦ inl (has_left gaps (end_boxes e) x y gap) | inr held ↦ inr held ]
    | inr new ↦ inl (has_right gaps (end_boxes e) x y (is_end e x y x_in y_in new))
  ];
})
