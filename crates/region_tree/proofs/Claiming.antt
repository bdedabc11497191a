-- Claims, rectangle by rectangle and subspace by subspace.
use Rattle.std.proofs.Common.{Less, Equal, Greater, ◌≡◌, ℕ, ◌+◌, ◌-◌, ◌*◌, ◌<◌, ◌≤◌, ◌^◌, false, IsTrue, List, [], Option, Some, None, slice_get, zero, suc, AllPairs, length, get_or, map, Contains, subst, refl, sym, ap, ◌∙◌, inl, inr, arith}
use Rattle.std.specs.List.Sorted.{IsPermutation}
use Rattle.std.specs.declared.cmp.Ordering.{Ordering}
use Rattle.std.specs.Ordering.{nat_cmp, ordering_then, is_lt}
use Rattle.std.specs.Option.{option_map_or}
use Rattle.std.proofs.lemmas.Bool.{cases_Bool, cases_eq}
use Rattle.std.proofs.lemmas.Cmp.{ranked}
use Rattle.std.proofs.lemmas.List.{get_or_default, get_or-map, length-map}
use Rattle.std.proofs.lemmas.List.Elements.{All-contains, Contains-append_left, Contains-append_right, Contains-append_cases}
use Rattle.std.proofs.lemmas.List.Sorted.{Contains-permutation, IsPermutation-sym}
use Rattle.std.proofs.lemmas.Option.{none-some, same_Some}
use Rattle.list_lemmas.proofs.lemmas.Pairs.{AllPairs-append, AllPairs-permutation}
use Rattle.point_set.specs.declared.rect.Rect.{Rect}
use Rattle.point_set.specs.Rects.{AreRects, ComesBefore, Holds, rect_at, rect_points}
use Rattle.point_set.proofs.lemmas.Bands.{comes_before}
use Rattle.point_set.proofs.lemmas.Columns.{of_has, has_at}
use Rattle.overlaps.specs.Meeting.{AreApart}
use Rattle.region_tree.specs.declared.claims.Claim.{Claim}
use Rattle.vocabulary.specs.Prelude.{Sub}
use Rattle.log_tables.specs.Regions.{Regions, space_points, whole_of}
use Rattle.plane_gaps.specs.Gaps.{IsRect}
use Rattle.region_tree.specs.declared.claims.Asked.{Asked}
use Rattle.region_tree.specs.declared.claims.Asked.TheVariants.{Apart, Within}
use Rattle.region_tree.specs.Faults.{is_disjoint, points_cut}
use Rattle.region_tree.specs.Wholes.{whole_at}
use Rattle.region_tree.specs.Claims.{AddsClaims, AreClaims, AreInOrder, AreOwn, AreReady, Claims, ClaimsAll, ClaimsNothing, HaveOneWhole, IsBefore, IsClaim, claim, group_of, whole_number}

-- ---- The rectangles of a set.

abbrev zero_rect : Rect
zero_rect = record { x0 = 0; x1 = 0; y0 = 0; y1 = 0 }

is_rect : (rects : List Rect) (r : Rect) → AreRects rects → Contains rects r → IsRect r
is_rect rects r are h =
    let some = All-contains (λ (s : Rect). (s.x0 ≤ s.x1) × (s.y0 ≤ s.y1)) rects r are.0.some h in
    let small = All-contains (λ (s : Rect). (s.x1 < 2 ^ 32) × (s.y1 < 2 ^ 32)) rects r are.1 h in
    record { wide = some.0; tall = some.1; x_fits = small.0; y_fits = small.1 }

apart_before : (r s : Rect) → ComesBefore r s → AreApart r s
apart_before r s (inl left) x y h k = let a = h.right in let b = k.left in omega (arith, left)
apart_before r s (inr above) x y h k = let a = h.high in let b = k.low in omega (arith, above.2)

all_apart : (rects : List Rect) → AreRects rects → AllPairs AreApart rects
all_apart rects are i j d lt within =
    rw (get_or_default rects i d zero_rect (omega (arith, lt, within)), get_or_default rects j d zero_rect within)
    (apart_before (rect_at rects i) (rect_at rects j) (comes_before rects i j are.0 lt within))

pub held : (rects : List Rect) (r : Rect) (x y : ℕ) → Contains rects r → Holds r x y → Contains (rect_points rects) (x * 2 ^ 32 + y)
held rects r x y h holds =
    let at : rect_at rects h.0 ≡ r = get_or_default rects h.0 zero_rect r h.1 ∙ h.2 in
    of_has rects x y (record { place = h.0; within = h.1; holds = subst (λ (s : Rect). Holds s x y) (sym at) holds })

-- ---- One subspace more.

-- the rectangle that was claimed
of_map : (group sub : ℕ) (rects : List Rect) (c : Claim) → Contains (map (claim group sub) rects) c
    → (r : Rect) × Contains rects r × (claim group sub r ≡ c)
of_map group sub rects c h =
    let lt : h.0 < length rects = omega (arith, h.1, length-map rects (claim group sub)) in
    let r = get_or rects h.0 zero_rect in
    (r, (h.0, lt, get_or_default rects h.0 r zero_rect lt), sym (get_or-map (claim group sub) rects h.0 zero_rect c lt) ∙ h.2)

in_map : (group sub : ℕ) (rects : List Rect) (k : ℕ) → k < length rects
    → Contains (map (claim group sub) rects) (claim group sub (rect_at rects k))
in_map group sub rects k lt = (
  k,
  omega (arith, lt, length-map rects (claim group sub)),
  get_or-map (claim group sub) rects k zero_rect (claim group sub (rect_at rects k)) lt,
)

own_map : (group sub : ℕ) (rects : List Rect) → AreRects rects → AllPairs AreOwn (map (claim group sub) rects)
own_map group sub rects are i j d lt within =
    let in_j : j < length rects = omega (arith, within, length-map rects (claim group sub)) in
    rw (get_or-map (claim group sub) rects i zero_rect d (omega (arith, lt, in_j)), get_or-map (claim group sub) rects j zero_rect d in_j)
    (λ _. all_apart rects are i j zero_rect lt in_j)

new_sound : (d : Regions) (asked : Asked) (i group : ℕ) (points : List ℕ) (rects : List Rect) (c : Claim)
    → ClaimsAll d asked i group points → rect_points rects ≡ points → Contains (map (claim group i) rects) c
    → (c.sub < i + 1) × IsClaim d asked c
new_sound d asked i group points rects c all is h =
    let r = of_map group i rects c h in
    subst (λ (e : Claim). (e.sub < i + 1) × IsClaim d asked e) r.2 (
      omega arith,
      (
        all.0,
        all.1,
        all.2,
        λ x y holds. subst (λ ps. Contains ps (x * 2 ^ 32 + y)) (is ∙ sym all.3)
            (held rects r.0 x y r.1 holds),
      ),
    )

new_whole : (d : Regions) (asked : Asked) (i group of x y : ℕ) (points : List ℕ) (rects : List Rect)
    → ClaimsAll d asked i group points → AreRects rects → rect_points rects ≡ points → y < 2 ^ 32
    → Claims d asked i of (x * 2 ^ 32 + y)
    → (c : Claim) × Contains (map (claim group i) rects) c × (c.sub ≡ i) × Holds c.rect x y
new_whole d asked i group of x y points rects all are is fits claims =
    let same : claims.0 ≡ all.0 = same_Some claims.0 all.0 (sym claims.1 ∙ all.1) in
    let has : Contains (rect_points rects) (x * 2 ^ 32 + y) =
    subst (λ ps. Contains ps (x * 2 ^ 32 + y)) (ap (λ (s : Sub). space_points d s.space) same ∙ all.3 ∙ sym is) claims.3 in
    let at = has_at rects x y are.1 fits has in
    (claim group i (rect_at rects at.place), in_map group i rects at.place at.within, refl, at.holds)

pub claims_more : (d : Regions) (asked : Asked) (i group : ℕ) (points : List ℕ) (old new : List Claim) → AreClaims d asked i old
    → ClaimsAll d asked i group points → AddsClaims old new group i points → AreClaims d asked (i + 1) new
claims_more d asked i group points old new before all adds =
    let rects = adds.rects in
    let more : List Claim = map (claim group i) rects in
    rw adds.added (record {
      sound = λ c h. elim (Contains-append_cases old more c h) [
        | inl o ↦ let k = before.sound c o in (omega (arith, k.0), k.1)
        | inr n ↦ new_sound d asked i group points rects c all adds.are.1 n
      ];
      whole = λ j of x y lt fits claims. elim (cases_eq j i) [
        | inl e ↦
            let w = new_whole d asked i group of x y points rects all adds.are.0 adds.are.1 fits
            (subst (λ k. Claims d asked k of (x * 2 ^ 32 + y)) e claims) in
            (w.0, Contains-append_right old more w.0 w.1, w.2 ∙ sym e, w.3)
        | inr ne ↦ let w = before.whole j of x y (omega (arith, lt)) fits claims in (w.0, Contains-append_left old more w.0 w.1, w.2, w.3)
      ];
      rects = λ c h. elim (Contains-append_cases old more c h) [
        | inl o ↦ before.rects c o
        | inr n ↦ let r = of_map group i rects c n in subst (λ (e : Claim). IsRect e.rect) r.2 (is_rect rects r.0 adds.are.0 r.1)
      ];
      own = AllPairs-append AreOwn old more before.own (own_map group i rects adds.are.0)
          (λ a b in_a in_b same.
          let less = (before.sound a in_a).0 in
          let r = of_map group i rects b in_b in
          absurd (omega (arith, less, same, ap (λ (e : Claim). e.sub) r.2)));
    })

pub claims_same : (d : Regions) (asked : Asked) (i : ℕ) (claims : List Claim) → AreClaims d asked i claims
    → ClaimsNothing d asked i → AreClaims d asked (i + 1) claims
claims_same d asked i claims before none = record {
  sound = λ c h. let k = before.sound c h in (omega (arith, k.0), k.1);
  whole = λ j of x y lt fits claimed. elim (cases_eq j i) [
    | inl e ↦ absurd (none of (x * 2 ^ 32 + y) (subst (λ k. Claims d asked k of (x * 2 ^ 32 + y)) e claimed))
    | inr ne ↦ before.whole j of x y (omega (arith, lt)) fits claimed
  ];
  rects = before.rects;
  own = before.own;
}

-- ---- Groups.

pub of_part : (d : Regions) (s : Sub) (also group : ℕ) → group_of d (Apart also) s ≡ Some group
    → (s.part ≡ group) × IsTrue (is_disjoint d s.part)
of_part d s also group is = elim (cases_Bool (is_disjoint d s.part)) [
  | inl so ↦ (same_Some s.part group (rw so at is), so)
  | inr nay ↦ absurd (none-some group (rw nay at is))
]

pub by_part : (d : Regions) (s : Sub) (also : ℕ) → IsTrue (is_disjoint d s.part) → group_of d (Apart also) s ≡ Some s.part
by_part d s also so = rw so refl

same_number : (a b : Option ℕ) → option_map_or (λ id. id + 1) a 0 ≡ option_map_or (λ id. id + 1) b 0 → a ≡ b
same_number (Some a) (Some b) e = ap (λ n. Some n) (omega (arith, e))
same_number (Some a) None e = absurd (omega (arith, e))
same_number None (Some b) e = absurd (omega (arith, e))
same_number None None e = refl

-- those of one group have one whole
one_cut : (d : Regions) (asked : Asked) (s t : Sub) (group : ℕ) → group_of d asked s ≡ Some group → group_of d asked t ≡ Some group
    → points_cut d s.part ≡ points_cut d t.part
one_cut d (Apart also) s t group of_s of_t = ap (points_cut d) ((of_part d s also group of_s).0 ∙ sym (of_part d t also group of_t).0)
one_cut d Within s t group of_s of_t =
    let same = same_Some (whole_number d s.part) group of_s ∙ sym (same_Some (whole_number d t.part) group of_t) in
    ap (λ o. option_map_or (space_points d) o []) (same_number (whole_of d s.part) (whole_of d t.part) same)

pub whole_is : (d : Regions) (i : ℕ) (s : Sub) → slice_get d.subs i ≡ Some s → whole_at d i ≡ points_cut d s.part
whole_is d i s at = ap (λ o. option_map_or (λ (t : Sub). points_cut d t.part) o []) at

-- ---- In order.

claims_permuted : (d : Regions) (asked : Asked) (n : ℕ) (xs ys : List Claim) → IsPermutation xs ys → AreClaims d asked n xs
    → AreClaims d asked n ys
claims_permuted d asked n xs ys perm are =
    let back : (c : Claim) → Contains ys c → Contains xs c = λ c h. Contains-permutation ys xs c (IsPermutation-sym xs ys perm) h in
    record {
      sound = λ c h. are.sound c (back c h);
      whole = λ j of x y lt fits claimed. let w = are.whole j of x y lt fits claimed in
          (w.0, Contains-permutation xs ys w.0 perm w.1, w.2, w.3);
      rects = λ c h. are.rects c (back c h);
      own = AllPairs-permutation AreOwn xs ys (λ a b apart same x y h k. apart (sym same) x y k h) perm are.own;
    }

one_whole : (d : Regions) (asked : Asked) (n : ℕ) (claims : List Claim) → AreClaims d asked n claims → HaveOneWhole d claims
one_whole d asked n claims are a b in_a in_b same =
    let u = (are.sound a in_a).1 in
    let v = (are.sound b in_b).1 in
    whole_is d a.sub u.0 u.1 ∙ one_cut d asked u.0 v.0 a.group u.2 (v.2 ∙ ap (λ g. Some g) (sym same)) ∙ sym (whole_is d b.sub v.0 v.1)

pub claims_ready : (d : Regions) (asked : Asked) (n : ℕ) (xs ys : List Claim) → IsPermutation xs ys → AreInOrder ys
    → AreClaims d asked n xs → AreClaims d asked n ys × AreReady ys × HaveOneWhole d ys
claims_ready d asked n xs ys perm order are =
    let more = claims_permuted d asked n xs ys perm are in
    (more, record { order = order; rects = more.rects; own = more.own }, one_whole d asked n ys more)

-- what a sort by group and first row gives
not_less : (a b : Claim) (o p : Ordering) → o ≡ nat_cmp b.group a.group → p ≡ nat_cmp b.rect.y0 a.rect.y0
    → is_lt (ordering_then o p) ≡ false → IsBefore a b
not_less a b Less p e f h = absurd (let no : ⊥ = cc in no)
not_less a b Equal Less e f h = absurd (let no : ⊥ = cc in no)
not_less a b Equal Equal e f h = (omega (arith, ranked b.group a.group Equal e), λ same. omega (arith, ranked b.rect.y0 a.rect.y0 Equal f))
not_less a b Equal Greater e f h = (
  omega (arith, ranked b.group a.group Equal e),
  λ same. omega (arith, ranked b.rect.y0 a.rect.y0 Greater f),
)
not_less a b Greater p e f h = let lt = ranked b.group a.group Greater e in (omega (arith, lt), λ same. absurd (omega (arith, lt, same)))

before_through : (a b c : Claim) → IsBefore a b → IsBefore b c → IsBefore a c
before_through a b c h k = (omega (arith, h.0, k.0), λ e. omega (arith, h.1 (omega (arith, h.0, k.0, e)), k.1 (omega (arith, h.0, k.0, e))))

before_by : (claims : List Claim) (j n : ℕ) (d : Claim)
    → ((k : ℕ) (e : Claim) → k + 1 < length claims → IsBefore (get_or claims k e) (get_or claims (k + 1) e))
    → j + 1 + n < length claims → IsBefore (get_or claims j d) (get_or claims (j + 1 + n) d)
before_by claims j zero d next lt = let e : j + 1 + 0 ≡ j + 1 = omega arith in rw e (next j d (omega arith))
before_by claims j (suc n) d next lt =
    let e : j + 1 + suc n ≡ j + 1 + n + 1 = omega arith in
    rw e (before_through (get_or claims j d) (get_or claims (j + 1 + n) d) (get_or claims (j + 1 + n + 1) d)
    (before_by claims j n d next (omega arith)) (next (j + 1 + n) d (omega arith)))

pub in_order : (claims : List Claim)
    → ((k : ℕ) (e : Claim) → k + 1 < length claims
    → is_lt (ordering_then (nat_cmp (get_or claims (k + 1) e).group (get_or claims k e).group)
    (nat_cmp (get_or claims (k + 1) e).rect.y0 (get_or claims k e).rect.y0)) ≡ false)
    → AreInOrder claims
in_order claims sorted i j d lt within =
    let e : i + 1 + (j - (i + 1)) ≡ j = omega arith in
    subst (λ k. IsBefore (get_or claims i d) (get_or claims k d)) e
    (before_by claims i (j - (i + 1)) d (λ k c less. not_less (get_or claims k c) (get_or claims (k + 1) c) _ _ refl refl (sorted k c less))
    (omega arith))
