-- Rectangles in bands.
use Rattle.std.proofs.Common.{◌≡◌, ℕ, zero, suc, ◌+◌, ◌-◌, ◌*◌, ◌<◌, ◌≤◌, ◌^◌, List, ◌∷◌, length, get_or, inl, inr, ◌∙◌, subst, arith, add-one}
use Rattle.std.specs.List.Sorted.{IsNonDecreasingBy}
use Rattle.std.proofs.lemmas.Bool.{cases_lt}
use Rattle.std.proofs.lemmas.List.Elements.{All-tail}
use Rattle.std.proofs.lemmas.List.Sorted.{IsNonDecreasingBy-from_all_adjacent}
use Rattle.point_set.specs.declared.rect.Rect.{Rect}
use Rattle.point_set.specs.Rects.{ComesBefore, Follows, AreBanded, AreSmall, rect_at}

-- which of the two it is
pub either : (r s : Rect) → Follows r s → ComesBefore r s
either r s h = elim (cases_lt r.x1 s.x0) [ inl right ↦ inl right | inr le ↦ inr (h le) ]

-- what comes after a rectangle with points comes after those before it
pub before_trans : (r s t : Rect) → s.x0 ≤ s.x1 → s.y0 ≤ s.y1 → ComesBefore r s → ComesBefore s t → ComesBefore r t
before_trans r s t wide high (inl left) (inl right) = inl (omega (arith, wide, left, right))
before_trans r s t wide high (inl left) (inr above) = inl (omega (arith, left, above.0))
before_trans r s t wide high (inr below) (inl right) = inl (omega (arith, below.1, right))
before_trans r s t wide high (inr below) (inr above) = inr (below.0 ∙ above.0, below.1 ∙ above.1, omega (arith, below.2, above.2, high))

pub later : (r s : Rect) (rs : List Rect) → AreBanded (r ∷ s ∷ rs) → AreBanded (s ∷ rs)
later r s rs h = record {
  some = All-tail (λ (r : Rect). (r.x0 ≤ r.x1) × (r.y0 ≤ r.y1)) r (s ∷ rs) h.some;
  order = λ k d lt. rw (add-one k) (rw (add-one (suc k)) at (h.order (suc k) d (omega (arith, lt))));
}

pub wide : (rects : List Rect) (k : ℕ) → AreBanded rects → k < length rects → (rect_at rects k).x0 ≤ (rect_at rects k).x1
wide rects k h lt = (h.some k (record { x0 = 0; x1 = 0; y0 = 0; y1 = 0 }) lt).0

pub high : (rects : List Rect) (k : ℕ) → AreBanded rects → k < length rects → (rect_at rects k).y0 ≤ (rect_at rects k).y1
high rects k h lt = (h.some k (record { x0 = 0; x1 = 0; y0 = 0; y1 = 0 }) lt).1

pub x_fits : (rects : List Rect) (k : ℕ) → AreSmall rects → k < length rects → (rect_at rects k).x1 < 2 ^ 32
x_fits rects k h lt = (h k (record { x0 = 0; x1 = 0; y0 = 0; y1 = 0 }) lt).0

pub y_fits : (rects : List Rect) (k : ℕ) → AreSmall rects → k < length rects → (rect_at rects k).y1 < 2 ^ 32
y_fits rects k h lt = (h k (record { x0 = 0; x1 = 0; y0 = 0; y1 = 0 }) lt).1

before_by : (rects : List Rect) (j n : ℕ) → AreBanded rects → j + 1 + n < length rects
    → ComesBefore (rect_at rects j) (rect_at rects (j + 1 + n))
before_by rects j zero h lt =
    let e : j + 1 + 0 ≡ j + 1 = omega arith in
    rw e (either (rect_at rects j) (rect_at rects (j + 1)) (h.order j (record { x0 = 0; x1 = 0; y0 = 0; y1 = 0 }) (omega arith)))
before_by rects j (suc n) h lt =
    let e : j + 1 + suc n ≡ j + 1 + n + 1 = omega arith in
    let within : j + 1 + n < length rects = omega arith in
    rw e (before_trans (rect_at rects j) (rect_at rects (j + 1 + n)) (rect_at rects (j + 1 + n + 1)) (wide rects (j + 1 + n) h within)
    (high rects (j + 1 + n) h within)
    (before_by rects j n h within) (either (rect_at rects (j + 1 + n)) (rect_at rects (j + 1 + n + 1))
    (h.order (j + 1 + n) (record { x0 = 0; x1 = 0; y0 = 0; y1 = 0 }) (omega arith))))

pub comes_before : (rects : List Rect) (j k : ℕ) → AreBanded rects → j < k → k < length rects
    → ComesBefore (rect_at rects j) (rect_at rects k)
comes_before rects j k h lt within =
    let e : j + 1 + (k - (j + 1)) ≡ k = omega arith in
    subst (λ i. ComesBefore (rect_at rects j) (rect_at rects i)) e (before_by rects j (k - (j + 1)) h (omega arith))

last_below : (r s : Rect) → s.x0 ≤ s.x1 → s.y0 ≤ s.y1 → r.y1 < 2 ^ 32 → ComesBefore r s → r.x1 * 2 ^ 32 + r.y1 ≤ s.x1 * 2 ^ 32 + s.y1
last_below r s wide high fits (inl left) = omega (arith, wide, left, fits)
last_below r s wide high fits (inr above) = omega (arith, above.1, above.2, high)

-- the last points of rectangles ascend
pub lasts_rise : (rects : List Rect) → AreBanded rects → AreSmall rects → IsNonDecreasingBy (λ (r : Rect). r.x1 * 2 ^ 32 + r.y1) rects
lasts_rise rects h small = IsNonDecreasingBy-from_all_adjacent (λ (r : Rect). r.x1 * 2 ^ 32 + r.y1) rects
    (λ k d lt. last_below (get_or rects k d) (get_or rects (k + 1) d) (h.some (k + 1) d lt).0 (h.some (k + 1) d lt).1
    (small k d (omega arith)).1 (either (get_or rects k d) (get_or rects (k + 1) d) (h.order k d lt)))
