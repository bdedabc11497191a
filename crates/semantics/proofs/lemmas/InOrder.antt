-- The parts of a space, as rectangles in order.
use Rattle.std.proofs.Common.{◌≡◌, ℕ, zero, suc, ◌+◌, ◌-◌, ◌^◌, ◌<◌, ◌≤◌, Bool, true, ◌&&◌, eqb, ltb, inl, inr, List, [], ◌∷◌, ◌++◌, map, length, get_or, ap, ◌∙◌, refl, arith, add-one}
use Rattle.std.specs.List.{AllByRecursion, range_with_len, flat_map}
use Rattle.std.proofs.lemmas.Bool.{and_parts, ltb-true, eqb-true, cases_Bool}
use Rattle.std.proofs.lemmas.List.Elements.{All-from_recursion}
use Rattle.point_set.specs.declared.rect.Rect.{Rect}
use Rattle.point_set.specs.Rects.{Follows, AreRects, rect_points, strip}
use Rattle.point_set.proofs.lemmas.Strips.{strips}
use Rattle.spy_words.specs.declared.lists.Quad.{Quad}
use Rattle.spy_words.specs.declared.lists.Extent.TheVariants.{Runs, Plane}
use Rattle.spy_words.specs.Classes.{ascends, span_before, quad_before, IsSpan, IsQuad, IsExtent}
use Rattle.semantics.specs.Tables.{points_of, rect_of}

all_mapped : {X Y : Type 0} (f : X → Y) (P : X → Type 0) (Q : Y → Type 0) → ((x : X) → P x → Q (f x)) → (xs : List X) → AllByRecursion P xs
    → AllByRecursion Q (map f xs)
all_mapped f P Q tells [] h = tt
all_mapped f P Q tells (x ∷ xs) h = (tells x h.0, all_mapped f P Q tells xs h.1)

abbrev HasPoint : Rect → Type 0
HasPoint r = (r.x0 ≤ r.x1) × (r.y0 ≤ r.y1)

abbrev IsSmall : Rect → Type 0
IsSmall r = (r.x1 < 2 ^ 32) × (r.y1 < 2 ^ 32)

-- Where each part stands before the next, the rectangle of each is followed by that of the next.
follows : {X : Type 0} (f : X → Rect) (before : X → X → Bool) → ((x y : X) → before x y ≡ true → Follows (f x) (f y)) → (xs : List X)
    → ascends before xs ≡ true → (k : ℕ) (d : Rect) → k + 1 < length (map f xs) → Follows (get_or (map f xs) k d) (get_or (map f xs) (k + 1) d)
follows f before tells [] up k d lt = absurd (omega arith)
follows f before tells (x ∷ []) up k d lt = absurd (omega arith)
follows f before tells (x ∷ y ∷ xs) up zero d lt = tells x y (and_parts (before x y) (ascends before (y ∷ xs)) up).0
follows f before tells (x ∷ y ∷ xs) up (suc k) d lt =
    rw (add-one (suc k)) (rw (add-one k) at (follows f before tells (y ∷ xs) (and_parts (before x y) (ascends before (y ∷ xs)) up).1 k d
    (omega (arith, lt))))

-- Runs that have a spelling are rectangles of the first column.
pub strips_in_order : (ps : List (ℕ × ℕ)) → IsExtent (Runs ps) → AreRects (map strip ps)
strips_in_order ps good = (
  record {
    some = All-from_recursion HasPoint (map strip ps) (all_mapped strip IsSpan HasPoint (λ p h. (omega arith, h.0)) ps good.0);
    order = follows strip span_before (λ p q up near. (refl, refl, ltb-true p.1 q.0 up)) ps good.1;
  },
  All-from_recursion IsSmall (map strip ps) (all_mapped strip IsSpan IsSmall (λ p h. (omega arith, h.1)) ps good.0),
)

quad_follows : (q r : Quad) → quad_before q r ≡ true → Follows (rect_of q) (rect_of r)
quad_follows q r up near = elim (cases_Bool (ltb q.x1 r.x0)) [
  | inl right ↦ absurd (omega (arith, near, ltb-true q.x1 r.x0 right))
  | inr other ↦
      let below = rw other at up in
      let all = and_parts (eqb q.x0 r.x0 && eqb q.x1 r.x1) (ltb q.y1 r.y0) below in
      let columns = and_parts (eqb q.x0 r.x0) (eqb q.x1 r.x1) all.0 in
      (eqb-true q.x0 r.x0 columns.0, eqb-true q.x1 r.x1 columns.1, ltb-true q.y1 r.y0 all.1)
]

-- So are rectangles that have a spelling.
pub rects_in_order : (qs : List Quad) → IsExtent (Plane qs) → AreRects (map rect_of qs)
rects_in_order qs good = (
  record {
    some = All-from_recursion HasPoint (map rect_of qs) (all_mapped rect_of IsQuad HasPoint (λ q h. (h.0.0, h.1.0)) qs good.0);
    order = follows rect_of quad_before quad_follows qs good.1;
  },
  All-from_recursion IsSmall (map rect_of qs) (all_mapped rect_of IsQuad IsSmall (λ q h. (h.0.1, h.1.1)) qs good.0),
)

-- The points of such rectangles are those of the runs.
pub points_of_strips : (ps : List (ℕ × ℕ)) → rect_points (map strip ps) ≡ points_of ps
points_of_strips ps = strips ps ∙ same ps
  where
    same : (ps : List (ℕ × ℕ)) → flat_map (λ (p : ℕ × ℕ). range_with_len p.0 (p.1 + 1 - p.0)) ps ≡ points_of ps
    same [] = refl
    same (p ∷ ps) = ap (λ xs. range_with_len p.0 (p.1 + 1 - p.0) ++ xs) (same ps)
