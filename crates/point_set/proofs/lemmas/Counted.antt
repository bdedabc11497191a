-- How many points rectangles have.
use Rattle.std.proofs.Common.{◌≡◌, All, ℕ, zero, suc, ◌+◌, ◌-◌, ◌*◌, ◌<◌, ◌≤◌, ◌^◌, nat_le, List, [], ◌∷◌, ◌++◌, length, take, refl, sym, ap, ◌∙◌, subst, arith}
use Rattle.std.specs.List.{range_with_len, flat_map}
use Rattle.std.proofs.lemmas.Bool.{and_right, le-leb, lt-leb}
use Rattle.std.proofs.lemmas.List.{length-append, take_more}
use Rattle.std.proofs.lemmas.List.Elements.{All-head, All-tail}
use Rattle.std.proofs.lemmas.List.FromFn.{length-range_with_len}
use Rattle.point_set.specs.declared.rect.Rect.{Rect}
use Rattle.point_set.specs.Rects.{column_points, columns_end, rect_points, rect_at}

-- the sum of a number for each of so many columns
abbrev pub total : (ℕ → ℕ) → ℕ → ℕ → ℕ
total f a zero = 0
total f a (suc n) = f a + total f (a + 1) n

total_both : (f g : ℕ → ℕ) (a n : ℕ) → total (λ x. f x + g x) a n ≡ total f a n + total g a n
total_both f g a zero = refl
total_both f g a (suc n) = let more = total_both f g (a + 1) n in omega (arith, more)

total_split : (f : ℕ → ℕ) (a n m : ℕ) → total f a (n + m) ≡ total f a n + total f (a + n) m
total_split f a zero m = let e : a + 0 ≡ a = omega arith in let z : 0 + m ≡ m = omega arith in let t : total f a 0 ≡ 0 = refl in
    rw (e, z) (omega (arith, t))
total_split f a (suc n) m =
    let e : suc n + m ≡ suc (n + m) = omega arith in
    let s : a + suc n ≡ a + 1 + n = omega arith in
    let more = total_split f (a + 1) n m in
    rw (e, s) (omega (arith, more))

total_same : (f : ℕ → ℕ) (a n h : ℕ) → ((x : ℕ) → a ≤ x → x < a + n → f x ≡ h) → total f a n ≡ n * h
total_same f a zero h same = omega arith
total_same f a (suc n) h same =
    let here = same a (omega arith) (omega arith) in
    let more = total_same f (a + 1) n h (λ x le lt. same x (omega arith) (omega arith)) in
    let e : suc n * h ≡ h + n * h = omega arith in
    rw (here, more) (sym e)

length_columns : (f : ℕ → List ℕ) (a n : ℕ) → length (flat_map f (range_with_len a n)) ≡ total (λ x. length (f x)) a n
length_columns f a zero = refl
length_columns f a (suc n) = length-append (f a) (flat_map f (range_with_len (a + 1) n))
    ∙ ap (λ k. length (f a) + k) (length_columns f (a + 1) n)

-- the points of one rectangle in a column
in_it : (x : ℕ) (r : Rect) → r.x0 ≤ x → x ≤ r.x1 → length (column_points x r) ≡ r.y1 + 1 - r.y0
in_it x r left right = rw (le-leb r.x0 x left, le-leb x r.x1 right) (length-range_with_len (x * 2 ^ 32 + r.y0) (r.y1 + 1 - r.y0))

left_of_it : (x : ℕ) (r : Rect) → x < r.x0 → length (column_points x r) ≡ 0
left_of_it x r lt = rw (lt-leb r.x0 x lt) refl

right_of_it : (x : ℕ) (r : Rect) → r.x1 < x → length (column_points x r) ≡ 0
right_of_it x r lt = rw (and_right (nat_le r.x0 x) (nat_le x r.x1) (lt-leb x r.x1 lt)) refl

-- how many points a rectangle has
abbrev pub area : Rect → ℕ
area r = (r.x1 + 1 - r.x0) * (r.y1 + 1 - r.y0)

one_rect : (r : Rect) (n : ℕ) → r.x0 ≤ r.x1 → r.x1 < n → total (λ x. length (column_points x r)) 0 n ≡ area r
one_rect r n le lt =
    let f : ℕ → ℕ = λ x. length (column_points x r) in
    let w = r.x1 + 1 - r.x0 in
    let e : n ≡ r.x0 + (r.x1 + 1 - r.x0 + (n - (r.x1 + 1))) = omega arith in
    let first : total f 0 r.x0 ≡ r.x0 * 0 = total_same f 0 r.x0 0 (λ x a b. left_of_it x r (omega arith)) in
    let mid : total f (0 + r.x0) (r.x1 + 1 - r.x0) ≡ (r.x1 + 1 - r.x0) * (r.y1 + 1 - r.y0) =
    total_same f (0 + r.x0) (r.x1 + 1 - r.x0) (r.y1 + 1 - r.y0) (λ x a b. in_it x r (omega arith) (omega arith)) in
    let last : total f (0 + r.x0 + (r.x1 + 1 - r.x0)) (n - (r.x1 + 1)) ≡ (n - (r.x1 + 1)) * 0 =
    total_same f (0 + r.x0 + (r.x1 + 1 - r.x0)) (n - (r.x1 + 1)) 0 (λ x a b. right_of_it x r (omega arith)) in
    let cut = total_split f 0 r.x0 (r.x1 + 1 - r.x0 + (n - (r.x1 + 1))) in
    let again = total_split f (0 + r.x0) (r.x1 + 1 - r.x0) (n - (r.x1 + 1)) in
    subst (λ k. total f 0 k ≡ area r) (sym e) (omega (arith, cut, again, first, mid, last))

-- how many points some rectangles have, each rectangle alone
abbrev pub areas : List Rect → ℕ
areas [] = 0
areas (r ∷ rs) = area r + areas rs

abbrev pub AllWide : ℕ → List Rect → Type 0
AllWide n [] = Unit {0}
AllWide n (r ∷ rs) = (r.x0 ≤ r.x1) × (r.x1 < n) × AllWide n rs

nothing : (a n : ℕ) → total (λ x. 0) a n ≡ 0
nothing a zero = refl
nothing a (suc n) = let more : total (λ x. 0) (a + 1) n ≡ 0 = nothing (a + 1) n in rw more refl

total_alike : (f g : ℕ → ℕ) (a n : ℕ) → ((x : ℕ) → f x ≡ g x) → total f a n ≡ total g a n
total_alike f g a zero same = refl
total_alike f g a (suc n) same = let here = same a in let more = total_alike f g (a + 1) n same in rw (here, more) refl

all_rects : (rects : List Rect) (n : ℕ) → AllWide n rects → total (λ x. length (flat_map (column_points x) rects)) 0 n ≡ areas rects
all_rects [] n wide = nothing 0 n
all_rects (r ∷ rs) n wide =
    let cut = total_alike (λ x. length (flat_map (column_points x) (r ∷ rs)))
    (λ x. length (column_points x r) + length (flat_map (column_points x) rs)) 0 n
    (λ x. length-append (column_points x r) (flat_map (column_points x) rs)) in
    let both = total_both (λ x. length (column_points x r)) (λ x. length (flat_map (column_points x) rs)) 0 n in
    cut ∙ both ∙ (let one = one_rect r n wide.0 wide.1 in let more = all_rects rs n wide.2 in rw (one, more) refl)

wide_more : (m n : ℕ) (rects : List Rect) → m ≤ n → AllWide m rects → AllWide n rects
wide_more m n [] le h = tt
wide_more m n (r ∷ rs) le h = (h.0, omega (arith, h.1), wide_more m n rs le h.2)

all_wide : (rects : List Rect) → All (λ (r : Rect). (r.x0 ≤ r.x1) × (r.y0 ≤ r.y1)) rects → AllWide (columns_end rects) rects
all_wide [] some = tt
all_wide (r ∷ rs) some = (
  (All-head (λ (r : Rect). (r.x0 ≤ r.x1) × (r.y0 ≤ r.y1)) r rs some).0,
  omega arith,
  wide_more (columns_end rs) (columns_end (r ∷ rs)) rs (omega arith)
      (all_wide rs (All-tail (λ (r : Rect). (r.x0 ≤ r.x1) × (r.y0 ≤ r.y1)) r rs some)),
)

-- as many as the areas of the rectangles together
pub counted : (rects : List Rect) → All (λ (r : Rect). (r.x0 ≤ r.x1) × (r.y0 ≤ r.y1)) rects → length (rect_points rects) ≡ areas rects
counted rects some = length_columns (λ x. flat_map (column_points x) rects) 0 (columns_end rects)
    ∙ all_rects rects (columns_end rects) (all_wide rects some)

areas_append : (rs ss : List Rect) → areas (rs ++ ss) ≡ areas rs + areas ss
areas_append [] ss = let e : 0 + areas ss ≡ areas ss = omega arith in sym e
areas_append (r ∷ rs) ss = let more = areas_append rs ss in rw more (omega arith)

pub areas_more : (rects : List Rect) (k : ℕ) → k < length rects → areas (take (k + 1) rects) ≡ areas (take k rects) + area (rect_at rects k)
areas_more rects k lt = ap areas (take_more rects k (record { x0 = 0; x1 = 0; y0 = 0; y1 = 0 }) lt)
    ∙ areas_append (take k rects) (rect_at rects k ∷ [])
    ∙ (let z : area (rect_at rects k) + 0 ≡ area (rect_at rects k) = omega arith in ap (λ n. areas (take k rects) + n) z)
