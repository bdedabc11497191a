-- How many points of rectangles begin cells.
use Rattle.std.proofs.Common.{◌≡◌, ◌↔◌, ℕ, zero, suc, ◌+◌, ◌-◌, ◌*◌, ◌/◌, ◌%◌, ◌^◌, ◌<◌, ◌≤◌, ◌==◌, ◌&&◌, nat_le, Bool, true, false, List, [], ◌∷◌, ◌++◌, Contains, length, get_or, filter, refl, sym, ap, ◌∙◌, subst, inl, inr, arith}
use Rattle.std.specs.List.{flat_map, range_with_len, sum_by}
use Rattle.std.specs.List.Sorted.{IsStrictlyIncreasing}
use Rattle.std.proofs.lemmas.Bool.{cases_Bool, and_parts, eq-eqb, eqb-true, le-leb, leb-true}
use Rattle.std.proofs.lemmas.List.{length-append}
use Rattle.std.proofs.lemmas.List.Elements.{All-head, All-tail, filter-append}
use Rattle.std.proofs.lemmas.List.Folds.{list_any_at, Any-from_list_any}
use Rattle.std.proofs.lemmas.List.FromFn.{length-range_with_len, get_or-range_with_len}
use Rattle.std.proofs.lemmas.List.Kept.{IsStrictlyIncreasing-filter}
use Rattle.std.proofs.lemmas.List.Sums.{sum_by-cons}
use Rattle.list_lemmas.proofs.lemmas.Filtered.{in_filter, of_filter}
use Rattle.point_set.specs.declared.rect.Rect.{Rect}
use Rattle.point_set.specs.Rects.{AreSmall, column_points, columns_end, has_column, rect_points}
use Rattle.grid.specs.Corners.{corners_in, is_corner}
use Rattle.grid.specs.Cuts.{Cuts, cuts, cuts_within, grid_of, x_ends, y_ends}
use Rattle.cell_counts.specs.Steps.{is_one}
use Rattle.grid.proofs.lemmas.Cutting.{are_cuts, cuts_ascend, cuts_have}

-- how many cells begin in a rectangle
abbrev pub begin_in : Cuts → Rect → ℕ
begin_in grid r = length (cuts_within r.x0 r.x1 grid.xs) * length (cuts_within r.y0 r.y1 grid.ys)

-- ---- The numbers of a range that are ends are the cuts in it.

pub ends_pass : (ns : List ℕ) (n : ℕ) → Contains ns n → is_one ns n ≡ true
ends_pass ns n h = list_any_at (λ m. m == n) ns h.0 n h.1 (eq-eqb (get_or ns h.0 n) n h.2)

pub pass_ends : (ns : List ℕ) (n : ℕ) → is_one ns n ≡ true → Contains ns n
pass_ends ns n so = let h = Any-from_list_any (λ m. m == n) ns so in subst (Contains ns) (eqb-true h.1 n h.4) (h.0, h.2, h.3)

in_range : (a n p : ℕ) → Contains (range_with_len a n) p → (a ≤ p) × (p < a + n)
in_range a n p h =
    let lt : h.0 < n = omega (arith, h.1, length-range_with_len a n) in
    let e : p ≡ a + h.0 = sym h.2 ∙ get_or-range_with_len a n h.0 p lt in
    (omega arith, omega arith)

of_range : (a n p : ℕ) → a ≤ p → p < a + n → Contains (range_with_len a n) p
of_range a n p low high =
    let lt : p - a < n = omega arith in
    let e : a + (p - a) ≡ p = omega arith in
    (p - a, omega (arith, lt, length-range_with_len a n), get_or-range_with_len a n (p - a) p lt ∙ e)

range_rises : (a n : ℕ) → IsStrictlyIncreasing (range_with_len a n)
range_rises a n k lt =
    let within : k + 1 < n = omega (arith, lt, length-range_with_len a n) in
    omega (arith, get_or-range_with_len a n k 0 (omega (arith, within)), get_or-range_with_len a n (k + 1) 0 within)

pub same_numbers : (ps qs : List ℕ) → IsStrictlyIncreasing ps → IsStrictlyIncreasing qs → ((n : ℕ) → Contains ps n ↔ Contains qs n) → ps ≡ qs
same_numbers ps qs up also same = are_cuts qs ps up same ∙ sym (are_cuts qs qs also (λ n. (λ h. h, λ h. h)))

ends_within : (p : ℕ → Bool) (ns : List ℕ) (a n low high : ℕ)
    → ((m : ℕ) → a ≤ m → m < a + n → p m ≡ true → (low ≤ m) × (m ≤ high) × Contains ns m)
    → ((m : ℕ) → low ≤ m → m ≤ high → Contains ns m → (a ≤ m) × (m < a + n) × (p m ≡ true))
    → filter p (range_with_len a n) ≡ cuts_within low high (cuts ns)
ends_within p ns a n low high to from =
    let t : ℕ → Bool = λ m. nat_le low m && nat_le m high in
    let range = range_with_len a n in
    same_numbers (filter p range) (cuts_within low high (cuts ns)) (IsStrictlyIncreasing-filter p range (range_rises a n))
    (IsStrictlyIncreasing-filter t (cuts ns) (cuts_ascend ns)) (λ m. (
      λ h.
          let f = of_filter p range m h in
          let r = in_range a n m f.0 in
          let i = to m r.0 r.1 f.1 in
          in_filter t (cuts ns) m ((cuts_have ns m).1 i.2) (rw (le-leb low m i.0, le-leb m high i.1) refl),
      λ h.
          let f = of_filter t (cuts ns) m h in
          let b = and_parts (nat_le low m) (nat_le m high) f.1 in
          let i = from m (leb-true low m b.0) (leb-true m high b.1) ((cuts_have ns m).0 f.0) in
          in_filter p range m (of_range a n m i.0 i.1) i.2,
    ))

columns_are : (ns : List ℕ) (r : Rect) (n : ℕ) → r.x1 < n
    → filter (λ x. has_column x r && is_one ns x) (range_with_len 0 n) ≡ cuts_within r.x0 r.x1 (cuts ns)
columns_are ns r n end = ends_within (λ x. has_column x r && is_one ns x) ns 0 n r.x0 r.x1
    (λ m from to so.
    let c = and_parts (has_column m r) (is_one ns m) so in
    let d = and_parts (nat_le r.x0 m) (nat_le m r.x1) c.0 in
    (leb-true r.x0 m d.0, leb-true m r.x1 d.1, pass_ends ns m c.1))
    (λ m low high has.
    (omega arith, omega (arith, high, end), rw (le-leb r.x0 m low, le-leb m r.x1 high) (ends_pass ns m has)))

rows_are : (ns : List ℕ) (r : Rect) → filter (is_one ns) (range_with_len r.y0 (r.y1 + 1 - r.y0)) ≡ cuts_within r.y0 r.y1 (cuts ns)
rows_are ns r = ends_within (is_one ns) ns r.y0 (r.y1 + 1 - r.y0) r.y0 r.y1
    (λ m from to so. (from, omega (arith, from, to), pass_ends ns m so))
    (λ m low high has. (low, omega (arith, low, high), ends_pass ns m has))

-- ---- The points of a column that pass.

-- a point passes where its column and its row do
abbrev pub Splits : (ℕ → Bool) → (ℕ → Bool) → (ℕ → Bool) → Type 0
Splits q u v = (x y : ℕ) → y < 2 ^ 32 → q (x * 2 ^ 32 + y) ≡ (u x && v y)

rows_pass : (q u v : ℕ → Bool) (x a n : ℕ) → Splits q u v → u x ≡ true → ((y : ℕ) → a ≤ y → y < a + n → y < 2 ^ 32)
    → length (filter q (range_with_len (x * 2 ^ 32 + a) n)) ≡ length (filter v (range_with_len a n))
rows_pass q u v x a zero split so fits = refl
rows_pass q u v x a (suc n) split so fits =
    let here : q (x * 2 ^ 32 + a) ≡ v a = split x a (fits a (omega arith) (omega arith)) ∙ ap (λ b. b && v a) so in
    let next : x * 2 ^ 32 + a + 1 ≡ x * 2 ^ 32 + (a + 1) = omega arith in
    let more = rows_pass q u v x (a + 1) n split so (λ y low high. fits y (omega (arith, low)) (omega (arith, high))) in
    elim (cases_Bool (v a)) [
      | inl passes ↦ rw (next, here, passes) (omega (arith, more))
      | inr fails ↦ rw (next, here, fails) more
    ]

none_pass : (q u v : ℕ → Bool) (x a n : ℕ) → Splits q u v → u x ≡ false → ((y : ℕ) → a ≤ y → y < a + n → y < 2 ^ 32)
    → length (filter q (range_with_len (x * 2 ^ 32 + a) n)) ≡ 0
none_pass q u v x a zero split not_so fits = refl
none_pass q u v x a (suc n) split not_so fits =
    let here : q (x * 2 ^ 32 + a) ≡ false = split x a (fits a (omega arith) (omega arith)) ∙ ap (λ b. b && v a) not_so in
    let next : x * 2 ^ 32 + a + 1 ≡ x * 2 ^ 32 + (a + 1) = omega arith in
    let more = none_pass q u v x (a + 1) n split not_so (λ y low high. fits y (omega (arith, low)) (omega (arith, high))) in
    rw (next, here) more

-- how many rows of a rectangle pass
abbrev rows_of : (ℕ → Bool) → Rect → ℕ
rows_of v r = length (filter v (range_with_len r.y0 (r.y1 + 1 - r.y0)))

in_column : (q u v : ℕ → Bool) (x : ℕ) (r : Rect) → Splits q u v → r.y1 < 2 ^ 32 → has_column x r ≡ true → u x ≡ true
    → length (filter q (column_points x r)) ≡ rows_of v r
in_column q u v x r split fits has so =
    rw has (rows_pass q u v x r.y0 (r.y1 + 1 - r.y0) split so (λ y low high. omega (arith, low, high, fits)))

off_column : (q u v : ℕ → Bool) (x : ℕ) (r : Rect) → Splits q u v → r.y1 < 2 ^ 32 → has_column x r ≡ true → u x ≡ false
    → length (filter q (column_points x r)) ≡ 0
off_column q u v x r split fits has not_so =
    rw has (none_pass q u v x r.y0 (r.y1 + 1 - r.y0) split not_so (λ y low high. omega (arith, low, high, fits)))

-- ---- The points of rectangles that pass.

parts : (q : ℕ → Bool) (ps qs : List ℕ) → length (filter q (ps ++ qs)) ≡ length (filter q ps) + length (filter q qs)
parts q ps qs = ap length (filter-append q ps qs) ∙ length-append (filter q ps) (filter q qs)

times_more : (n h : ℕ) → suc n * h ≡ h + n * h
times_more n h = omega arith

-- of one rectangle, in some columns
in_columns : (q u v : ℕ → Bool) (r : Rect) (xs : List ℕ) → Splits q u v → r.y1 < 2 ^ 32
    → length (filter q (flat_map (λ x. column_points x r) xs)) ≡ length (filter (λ x. has_column x r && u x) xs) * rows_of v r
in_columns q u v r [] split fits = omega arith
in_columns q u v r (x ∷ xs) split fits =
    let cut = parts q (column_points x r) (flat_map (λ z. column_points z r) xs) in
    let more = in_columns q u v r xs split fits in
    elim (cases_Bool (has_column x r)) [
      | inl has ↦ elim (cases_Bool (u x)) [
        | inl so ↦
            let here = in_column q u v x r split fits has so in
            cut ∙ rw (here, more, has, so) (sym (times_more (length (filter (λ z. has_column z r && u z) xs)) (rows_of v r)))
        | inr not_so ↦ let here = off_column q u v x r split fits has not_so in cut ∙ rw (here, more, has, not_so) (omega arith)
      ]
      | inr misses ↦ let here : length (filter q (column_points x r)) ≡ 0 = rw misses refl in cut ∙ rw (here, more, misses) (omega arith)
    ]

-- of rectangles, each alone
each_alone : (q : ℕ → Bool) (f g : ℕ → List ℕ) (xs : List ℕ)
    → length (filter q (flat_map (λ x. f x ++ g x) xs)) ≡ length (filter q (flat_map f xs)) + length (filter q (flat_map g xs))
each_alone q f g [] = refl
each_alone q f g (x ∷ xs) =
    let both = parts q (f x ++ g x) (flat_map (λ z. f z ++ g z) xs) in
    let here = parts q (f x) (g x) in
    let first = parts q (f x) (flat_map f xs) in
    let second = parts q (g x) (flat_map g xs) in
    let more = each_alone q f g xs in
    omega (arith, both, here, first, second, more)

nothing : (q : ℕ → Bool) (xs : List ℕ) → length (filter q (flat_map (λ x. []) xs)) ≡ 0
nothing q [] = refl
nothing q (x ∷ xs) = nothing q xs

-- ---- Corners.

pub corner_splits : (all : List Rect) → Splits (is_corner all) (is_one (x_ends all)) (is_one (y_ends all))
corner_splits all x y fits =
    let column : (x * 2 ^ 32 + y) / 2 ^ 32 ≡ x = omega (arith, fits) in
    let row : (x * 2 ^ 32 + y) % 2 ^ 32 ≡ y = omega (arith, fits) in
    rw (column, row) refl

one_begins : (all : List Rect) (r : Rect) (n : ℕ) → r.x1 < n → r.y1 < 2 ^ 32
    → length (filter (is_corner all) (flat_map (λ x. column_points x r) (range_with_len 0 n))) ≡ begin_in (grid_of all) r
one_begins all r n end fits =
    in_columns (is_corner all) (is_one (x_ends all)) (is_one (y_ends all)) r (range_with_len 0 n) (corner_splits all) fits
    ∙ ap (λ ns. length ns * rows_of (is_one (y_ends all)) r) (columns_are (x_ends all) r n end)
    ∙ ap (λ ns. length (cuts_within r.x0 r.x1 (cuts (x_ends all))) * length ns) (rows_are (y_ends all) r)

all_begin : (all rects : List Rect) (n : ℕ) → columns_end rects ≤ n → AreSmall rects
    → length (filter (is_corner all) (flat_map (λ x. flat_map (column_points x) rects) (range_with_len 0 n)))
    ≡ sum_by (begin_in (grid_of all)) rects
all_begin all [] n end small = nothing (is_corner all) (range_with_len 0 n)
all_begin all (r ∷ rs) n end small =
    let fits = (All-head (λ (q : Rect). (q.x1 < 2 ^ 32) × (q.y1 < 2 ^ 32)) r rs small).1 in
    let more = all_begin all rs n (omega (arith, end)) (All-tail (λ (q : Rect). (q.x1 < 2 ^ 32) × (q.y1 < 2 ^ 32)) r rs small) in
    let here = one_begins all r n (omega (arith, end)) fits in
    let cut = each_alone (is_corner all) (λ x. column_points x r) (λ x. flat_map (column_points x) rs) (range_with_len 0 n) in
    let sum = sum_by-cons (begin_in (grid_of all)) r rs in
    cut ∙ rw (here, more) (sym sum)

-- as many as begin in each of the rectangles, together
pub counted : (all rects : List Rect) → AreSmall rects
    → length (corners_in all (rect_points rects)) ≡ sum_by (begin_in (grid_of all)) rects
counted all rects small = all_begin all rects (columns_end rects) (omega arith) small
