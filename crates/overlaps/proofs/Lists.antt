-- Two lists of rectangles: the rows that they share, and the points.
use Rattle.std.proofs.Common.{◌≡◌, ℕ, zero, suc, ◌+◌, ◌<◌, ◌≤◌, ◌^◌, ◌⊎◌, nat_le, max, true, Bool, List, [], ◌∷◌, Option, Some, None, MatchOption, filter, length, get_or, AllPairs, Contains, inl, inr, refl, sym, subst, ap, ◌∙◌, arith}
use Rattle.std.proofs.lemmas.Bool.{cases_Bool, cases_lt, and_parts, and_from, leb-true, le-leb, le-ltb, lt-ltb, not_from_false}
use Rattle.std.proofs.lemmas.List.{get_or_default}
use Rattle.std.proofs.lemmas.List.Elements.{Contains-get_or}
use Rattle.std.proofs.lemmas.List.Kept.{AllPairs-filter}
use Rattle.list_lemmas.proofs.lemmas.Filtered.{in_filter, of_filter}
use Rattle.point_set.specs.declared.rect.Rect.{Rect}
use Rattle.point_set.specs.Rects.{AreSmall, Holds, rect_at}
use Rattle.overlaps.specs.declared.node.Columns.{Columns}
use Rattle.overlaps.specs.declared.rows.Reached.{Reached}
use Rattle.overlaps.specs.Meeting.{AreApartIn, HasAllIn, IsIn, IsNoHigher, goes_left, goes_right, spans}
use Rattle.overlaps.specs.declared.point.Point.{Point}
use Rattle.overlaps.specs.Rows.{AreTall, IsPast, IsReached, NoneBeginsIn, RowsApart, ShareRow, place_with}
use Rattle.overlaps.specs.Between.{AreApartFrom, AreApartFromIn, HasAt, IsCommon, SpansApart, TellsBetween, corner}
use Rattle.std.specs.List.{AllByRecursion}

-- ---- Rows, by one pass.

abbrev zero_rect : Rect
zero_rect = record { x0 = 0; x1 = 0; y0 = 0; y1 = 0 }

pub reached_more : (rects : List Rect) (e f : Reached) (row : ℕ) → IsReached rects e row → e.count < length rects
    → (rect_at rects e.count).y0 ≤ row → f.count ≡ e.count + 1 → f.end ≡ max e.end ((rect_at rects e.count).y1 + 1)
    → f.place ≡ place_with e ((rect_at rects e.count).y1 + 1) → IsReached rects f row
reached_more rects e f row h lt low count end place = record {
  within = omega (arith, lt, count);
  begin = λ k less. elim (cases_lt k e.count) [
    | inl before ↦ h.begin k before
    | inr le ↦ let same : k ≡ e.count = omega (arith, less, le, count) in rw same low
  ];
  below = λ k less. elim (cases_lt k e.count) [
    | inl before ↦ omega (arith, h.below k before, end)
    | inr le ↦ let same : k ≡ e.count = omega (arith, less, le, count) in rw same (omega (arith, end))
  ];
  some = elim (cases_lt e.end ((rect_at rects e.count).y1 + 1)) [
    | inl above ↦
        let at : f.place ≡ e.count = rw (lt-ltb e.end ((rect_at rects e.count).y1 + 1) above) at place in
        inr (omega (arith, at, count), rw at (omega (arith, end, above)))
    | inr le ↦
        let at : f.place ≡ e.place = rw (le-ltb e.end ((rect_at rects e.count).y1 + 1) le) at place in
        elim h.some [
          | inl none ↦ absurd (omega (arith, none, le))
          | inr s ↦ inr (omega (arith, s.0, at, count), rw at (omega (arith, s.1, end, le)))
        ]
  ];
}

-- none of the others before a place begins in a row of one of these
pub record NoneBegun (rects others : List Rect) (reached : Reached) (n : ℕ) : Type 0 where
  pub row : ℕ
  pub is : IsReached rects reached row
  pub low : (j : ℕ) → n ≤ j → j < length others → row ≤ (rect_at others j).y0
  pub none : (j : ℕ) → j < n → j < length others → (r : Rect) → Contains rects r → r.y0 ≤ (rect_at others j).y0
      → r.y1 < (rect_at others j).y0

at_place : (rects : List Rect) (r : Rect) (h : Contains rects r) → rect_at rects h.0 ≡ r
at_place rects r h = get_or_default rects h.0 zero_rect r h.1 ∙ h.2

pub begun_more : (rects others : List Rect) (before after : Reached) (n : ℕ) → AllPairs IsNoHigher others
    → NoneBegun rects others before n → n < length others → IsReached rects after (rect_at others n).y0
    → IsPast rects after.count (rect_at others n).y0 → after.end ≤ (rect_at others n).y0 → NoneBegun rects others after (n + 1)
begun_more rects others before after n order h lt is past le = record {
  row = (rect_at others n).y0;
  is = is;
  low = λ j more within. order n j zero_rect (omega (arith, more)) within;
  none = λ j less within r in_r from. elim (cases_lt j n) [
    | inl earlier ↦ h.none j earlier within r in_r from
    | inr ge ↦
        let same : j ≡ n = omega (arith, less, ge) in
        let from' : r.y0 ≤ (rect_at others n).y0 = subst (λ k. r.y0 ≤ (rect_at others k).y0) same from in
        let at = at_place rects r in_r in
        let first : (rect_at rects in_r.0).y0 ≡ r.y0 = ap (λ (s : Rect). s.y0) at in
        let last : (rect_at rects in_r.0).y1 ≡ r.y1 = ap (λ (s : Rect). s.y1) at in
        subst (λ k. r.y1 < (rect_at others k).y0) (sym same) (elim (cases_lt in_r.0 after.count) [
          | inl reached ↦ omega (arith, is.below in_r.0 reached, last, le)
          | inr beyond ↦ absurd (omega (arith, past in_r.0 beyond in_r.1, first, from'))
        ])
  ];
}

pub begun_all : (rects others : List Rect) (reached : Reached) (n : ℕ) → NoneBegun rects others reached n → length others ≤ n
    → NoneBeginsIn rects others
begun_all rects others reached n h past r s in_r in_s from =
    let at = at_place others s in_s in
    let from' : r.y0 ≤ (rect_at others in_s.0).y0 = subst (λ (t : Rect). r.y0 ≤ t.y0) (sym at) from in
    subst (λ (t : Rect). r.y1 < t.y0) at (h.none in_s.0 (omega (arith, in_s.1, past)) in_s.1 r in_r from')

tall_in : (rects : List Rect) (r : Rect) → AreTall rects → Contains rects r → r.y0 ≤ r.y1
tall_in rects r tall h = subst (λ (s : Rect). s.y0 ≤ s.y1) h.2 (tall h.0 r h.1)

pub rows_from : (ours theirs : List Rect) → NoneBeginsIn ours theirs → NoneBeginsIn theirs ours → RowsApart ours theirs
rows_from ours theirs a b r s in_r in_s = elim (cases_lt s.y0 r.y0) [
  | inl above ↦ inr (b s r in_s in_r (omega (arith, above)))
  | inr below ↦ inl (a r s in_r in_s below)
]

-- ---- In one node.

pub is_kept_order : (p : Rect → Bool) (rects kept : List Rect) → kept ≡ filter p rects → AllPairs IsNoHigher rects
    → AllPairs IsNoHigher kept
is_kept_order p rects kept is order = subst (AllPairs IsNoHigher) (sym is) (AllPairs-filter IsNoHigher p rects order)

pub each_in : (P : Rect → Type 0) (rects : List Rect) (r : Rect) → AllByRecursion P rects → Contains rects r → P r
each_in P [] r each h = absurd (omega (arith, h.1))
each_in P (s ∷ ss) r each (zero, lt, at) = subst P at each.0
each_in P (s ∷ ss) r each (suc k, lt, at) = each_in P ss r each.1 (k, omega (arith, lt), at)

pub each_of : (P : Rect → Type 0) (rects : List Rect) → ((r : Rect) → Contains rects r → P r) → AllByRecursion P rects
each_of P [] f = tt
each_of P (s ∷ ss) f = (f s (0, omega arith, refl), each_of P ss (λ r h. f r (suc h.0, omega (arith, h.1), h.2)))

pub tall_of : (lo hi : ℕ) (rects : List Rect) → AllByRecursion (IsIn lo hi) rects → AreTall rects
tall_of lo hi rects each k d lt = (each_in (IsIn lo hi) rects (get_or rects k d) each (Contains-get_or rects k d lt)).tall

pub tall_kept : (p : Rect → Bool) (rects : List Rect) → AreTall rects → AreTall (filter p rects)
tall_kept p rects tall k d lt = tall_in rects (get_or (filter p rects) k d) tall
    (of_filter p rects (get_or (filter p rects) k d) (Contains-get_or (filter p rects) k d lt)).0

pub spans_from : (lo hi : ℕ) (ours theirs wide other : List Rect) → wide ≡ filter (spans lo hi) ours
    → other ≡ filter (spans lo hi) theirs → RowsApart wide theirs → RowsApart ours other → SpansApart lo hi ours theirs
spans_from lo hi ours theirs wide other w o a b r s in_r in_s (inl so) =
    a r s (subst (λ rs. Contains rs r) (sym w) (in_filter (spans lo hi) ours r in_r so)) in_s
spans_from lo hi ours theirs wide other w o a b r s in_r in_s (inr so) =
    b r s in_r (subst (λ rs. Contains rs s) (sym o) (in_filter (spans lo hi) theirs s in_s so))

-- two rectangles of some columns that share a row have a corner in common, where one of them has all columns
at_corner : (lo hi : ℕ) (r s : Rect) → lo ≤ hi → IsIn lo hi r → IsIn lo hi s
    → (spans lo hi r ≡ true) ⊎ (spans lo hi s ≡ true) → max r.y0 s.y0 ≤ r.y1 → max r.y0 s.y0 ≤ s.y1
    → Holds r (max r.x0 s.x0) (max r.y0 s.y0) × Holds s (max r.x0 s.x0) (max r.y0 s.y0)
at_corner lo hi r s le a b (inl wide) mine other =
    let w = and_parts (nat_le r.x0 lo) (nat_le hi r.x1) wide in
    let w0 = leb-true _ _ w.0 in
    let w1 = leb-true _ _ w.1 in
    let s0 = b.begins in
    let s1 = b.ends in
    let s2 = b.wide in
    let r2 = a.wide in (
      record { left = omega arith; right = omega arith; low = omega arith; high = omega arith },
      record { left = omega arith; right = omega arith; low = omega arith; high = omega arith },
    )
at_corner lo hi r s le a b (inr wide) mine other =
    let w = and_parts (nat_le s.x0 lo) (nat_le hi s.x1) wide in
    let w0 = leb-true _ _ w.0 in
    let w1 = leb-true _ _ w.1 in
    let r0 = a.begins in
    let r1 = a.ends in
    let r2 = a.wide in
    let s2 = b.wide in (
      record { left = omega arith; right = omega arith; low = omega arith; high = omega arith },
      record { left = omega arith; right = omega arith; low = omega arith; high = omega arith },
    )

met_at : (lo hi : ℕ) (ours theirs : List Rect) (r s : Rect) → lo ≤ hi → AllByRecursion (IsIn lo hi) ours → AllByRecursion (IsIn lo hi) theirs
    → Contains ours r → Contains theirs s → (spans lo hi r ≡ true) ⊎ (spans lo hi s ≡ true) → max r.y0 s.y0 ≤ r.y1
    → max r.y0 s.y0 ≤ s.y1 → IsCommon ours theirs (corner r s)
met_at lo hi ours theirs r s le a b in_r in_s wide mine other =
    let at = at_corner lo hi r s le (each_in (IsIn lo hi) ours r a in_r) (each_in (IsIn lo hi) theirs s b in_s) wide mine other in
    ((r, in_r, at.0), (s, in_s, at.1))

pub wide_met : (lo hi : ℕ) (ours theirs wide : List Rect) (r s : Rect) → lo ≤ hi → AllByRecursion (IsIn lo hi) ours
    → AllByRecursion (IsIn lo hi) theirs → wide ≡ filter (spans lo hi) ours → ShareRow wide theirs r s → IsCommon ours theirs (corner r s)
wide_met lo hi ours theirs wide r s le a b w h =
    let of = of_filter (spans lo hi) ours r (subst (λ rs. Contains rs r) w h.first) in
    met_at lo hi ours theirs r s le a b of.0 h.second (inl of.1) h.our h.their

pub other_met : (lo hi : ℕ) (ours theirs other : List Rect) (r s : Rect) → lo ≤ hi → AllByRecursion (IsIn lo hi) ours
    → AllByRecursion (IsIn lo hi) theirs → other ≡ filter (spans lo hi) theirs → ShareRow ours other r s → IsCommon ours theirs (corner r s)
other_met lo hi ours theirs other r s le a b o h =
    let of = of_filter (spans lo hi) theirs s (subst (λ rs. Contains rs s) o h.second) in
    met_at lo hi ours theirs r s le a b h.first of.0 (inr of.1) h.our h.their

rows_tell : (r s : Rect) (lo hi : ℕ) → (r.y1 < s.y0) ⊎ (s.y1 < r.y0) → AreApartIn lo hi r s
rows_tell r s lo hi (inl below) x y from to h k = let top = h.high in let low = k.low in omega (arith, below)
rows_tell r s lo hi (inr above) x y from to h k = let top = k.high in let low = h.low in omega (arith, above)

-- where one column is left
pub one_column : (lo hi : ℕ) (ours theirs : List Rect) → hi ≤ lo → AllByRecursion (IsIn lo hi) ours → SpansApart lo hi ours theirs
    → AreApartFromIn lo hi ours theirs
one_column lo hi ours theirs le inside apart r s in_r in_s =
    let a = each_in (IsIn lo hi) ours r inside in_r in
    let begins = a.begins in
    let ends = a.ends in
    rows_tell r s lo hi (apart r s in_r in_s (inl (and_from _ _ (le-leb r.x0 lo (omega arith)) (le-leb hi r.x1 (omega arith)))))

-- ---- Both halves.

join_two : (lo hi middle : ℕ) (r s : Rect) → ((spans lo hi r ≡ true) ⊎ (spans lo hi s ≡ true) → (r.y1 < s.y0) ⊎ (s.y1 < r.y0))
    → (goes_left lo hi middle r ≡ true → goes_left lo hi middle s ≡ true → AreApartIn lo middle r s)
    → (goes_right lo hi middle r ≡ true → goes_right lo hi middle s ≡ true → AreApartIn (middle + 1) hi r s) → AreApartIn lo hi r s
join_two lo hi middle r s rows left right x y from to h k = elim (cases_Bool (spans lo hi r)) [
  | inl so ↦ rows_tell r s lo hi (rows (inl so)) x y from to h k
  | inr nay ↦ elim (cases_Bool (spans lo hi s)) [
    | inl so ↦ rows_tell r s lo hi (rows (inr so)) x y from to h k
    | inr none ↦ elim (cases_lt middle x) [
      | inl behind ↦
          let a = h.right in
          let b = k.right in
          right (and_from _ _ (not_from_false (spans lo hi r) nay) (lt-ltb middle r.x1 (omega arith)))
          (and_from _ _ (not_from_false (spans lo hi s) none) (lt-ltb middle s.x1 (omega arith))) x y (omega arith) to h k
      | inr before ↦
          let a = h.left in
          let b = k.left in
          left (and_from _ _ (not_from_false (spans lo hi r) nay) (le-leb r.x0 middle (omega arith)))
          (and_from _ _ (not_from_false (spans lo hi s) none) (le-leb s.x0 middle (omega arith))) x y from before h k
    ]
  ]
]

-- what halves have is in the lists
kept_has : (q : Rect → Bool) (rects kept : List Rect) (p : Point) → kept ≡ filter q rects → HasAt kept p → HasAt rects p
kept_has q rects kept p is h = (h.0, (of_filter q rects h.0 (subst (λ rs. Contains rs h.0) is h.1)).0, h.2)

pub kept_common : (q : Rect → Bool) (ours theirs left others : List Rect) (p : Point) → left ≡ filter q ours
    → others ≡ filter q theirs → IsCommon left others p → IsCommon ours theirs p
kept_common q ours theirs left others p l o h = (kept_has q ours left p l h.0, kept_has q theirs others p o h.1)

pub join_halves : (lo hi middle : ℕ) (ours theirs left others right rest : List Rect) → SpansApart lo hi ours theirs
    → left ≡ filter (goes_left lo hi middle) ours → others ≡ filter (goes_left lo hi middle) theirs
    → right ≡ filter (goes_right lo hi middle) ours → rest ≡ filter (goes_right lo hi middle) theirs
    → AreApartFromIn lo middle left others → AreApartFromIn (middle + 1) hi right rest → AreApartFromIn lo hi ours theirs
join_halves lo hi middle ours theirs left others right rest rows l o r t a b u v in_u in_v =
    join_two lo hi middle u v (rows u v in_u in_v)
    (λ so also. a u v (subst (λ rs. Contains rs u) (sym l) (in_filter (goes_left lo hi middle) ours u in_u so))
    (subst (λ rs. Contains rs v) (sym o) (in_filter (goes_left lo hi middle) theirs v in_v also)))
    (λ so also. b u v (subst (λ rs. Contains rs u) (sym r) (in_filter (goes_right lo hi middle) ours u in_u so))
    (subst (λ rs. Contains rs v) (sym t) (in_filter (goes_right lo hi middle) theirs v in_v also)))

pub both_tell : (lo hi middle : ℕ) (ours theirs left others right rest : List Rect) (found : Option Point)
    → SpansApart lo hi ours theirs → left ≡ filter (goes_left lo hi middle) ours
    → others ≡ filter (goes_left lo hi middle) theirs → right ≡ filter (goes_right lo hi middle) ours
    → rest ≡ filter (goes_right lo hi middle) theirs → AreApartFromIn lo middle left others
    → TellsBetween (middle + 1) hi right rest found → TellsBetween lo hi ours theirs found
both_tell lo hi middle ours theirs left others right rest (Some p) rows l o r t a tells =
    kept_common (goes_right lo hi middle) ours theirs right rest p r t tells
both_tell lo hi middle ours theirs left others right rest None rows l o r t a tells =
    join_halves lo hi middle ours theirs left others right rest rows l o r t a tells

pub widen : (lo hi : ℕ) (c : Columns) (ours theirs : List Rect) → AllByRecursion (HasAllIn lo hi c) ours
    → AreApartFromIn c.lo c.hi ours theirs → AreApartFromIn lo hi ours theirs
widen lo hi c ours theirs all apart r s in_r in_s x y from to h k =
    let in_it = each_in (HasAllIn lo hi c) ours r all in_r x from to h.left h.right in
    apart r s in_r in_s x y in_it.0 in_it.1 h k

pub tells_widely : (lo hi : ℕ) (c : Columns) (ours theirs : List Rect) (found : Option Point) → AllByRecursion (HasAllIn lo hi c) ours
    → TellsBetween c.lo c.hi ours theirs found → TellsBetween lo hi ours theirs found
tells_widely lo hi c ours theirs (Some p) all h = h
tells_widely lo hi c ours theirs None all h = widen lo hi c ours theirs all h

pub hull_all : (lo hi : ℕ) (c e : Columns) (rects : List Rect) → AllByRecursion (HasAllIn lo hi c) rects → e.lo ≤ c.lo → c.hi ≤ e.hi
    → AllByRecursion (HasAllIn lo hi e) rects
hull_all lo hi c e rects all low high = each_of (HasAllIn lo hi e) rects (λ r h x from to left right.
    let i = each_in (HasAllIn lo hi c) rects r all h x from to left right in (omega (arith, i.0, low), omega (arith, i.1, high)))

-- what is told of all points, from what is told of all columns
pub answer : (ours theirs : List Rect) (found : Option Point) → AreSmall ours → TellsBetween 0 4294967295 ours theirs found
    → MatchOption found (AreApartFrom ours theirs) (IsCommon ours theirs)
answer ours theirs (Some p) small tells = tells
answer ours theirs None small tells = λ r s in_r in_s x y h k.
    let fits : r.x1 < 2 ^ 32 = subst (λ (t : Rect). t.x1 < 2 ^ 32) in_r.2 (small in_r.0 r in_r.1).0 in
    let right = h.right in
    tells r s in_r in_s x y (omega arith) (omega arith) h k
