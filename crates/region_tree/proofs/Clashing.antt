-- Claims that share points, and the subspaces that meet.
use Rattle.std.proofs.Common.{◌≡◌, ◌≢◌, ℕ, ◌+◌, ◌*◌, ◌/◌, ◌%◌, ◌<◌, ◌≤◌, ◌^◌, ◌&&◌, not, max, min, Bool, true, false, List, [], nat_eq, nat_le, nat_lt, All, AllPairs, length, get_or, filter, take, drop, Option, Some, None, MatchOption, Contains, IsTrue, slice_get, subst, refl, sym, ap, ◌∙◌, inl, inr, ◌⊎◌, arith}
use Rattle.std.specs.List.Sorted.{IsPartitionPoint, IsNonDecreasingBy}
use Rattle.std.specs.Option.{option_map_or}
use Rattle.std.proofs.lemmas.Bool.{cases_Bool, cases_lt, cases_eq, and_parts, and_from, both_ways, ltb-true, lt-ltb, le-ltb, leb-true, leb-false, le-leb, eqb-true, eq-eqb}
use Rattle.std.proofs.lemmas.List.{get_or_default, get_or-map, get_or-drop, get_or-take, length-map, length-take, length-drop, take-append-drop}
use Rattle.std.proofs.lemmas.List.Elements.{Contains-append_left, Contains-append_right, Contains-append_cases, Contains-get_or}
use Rattle.std.proofs.lemmas.List.Kept.{AllPairs-filter}
use Rattle.std.proofs.lemmas.Nat.{div-add-mod'}
use Rattle.std.proofs.lemmas.Option.{same_Some, slice_get_within}
use Rattle.list_lemmas.proofs.lemmas.Filtered.{in_filter, of_filter}
use Rattle.list_lemmas.proofs.lemmas.Pairs.{AllPairs-left, AllPairs-right, any_two}
use Rattle.point_set.specs.declared.rect.Rect.{Rect}
use Rattle.point_set.specs.Rects.{AreSmall, Holds}
use Rattle.overlaps.specs.declared.point.Point.{Point}
use Rattle.overlaps.specs.Between.{HasAt}
use Rattle.overlaps.specs.Meeting.{AreApart, IsNoHigher}
use Rattle.region_tree.specs.declared.claims.Claim.{Claim}
use Rattle.vocabulary.specs.Prelude.{Sub}
use Rattle.log_tables.specs.Regions.{Regions, space_points}
use Rattle.region_tree.specs.declared.claims.Asked.{Asked}
use Rattle.region_tree.specs.declared.claims.Asked.TheVariants.{Apart, Within}
use Rattle.region_tree.specs.Faults.{IsOutside, is_disjoint, MeetsEarlier, points_cut}
use Rattle.region_tree.specs.Wholes.{AreHeld, IsFirstOutside, IsHeld, NoneOutside, whole_at}
use Rattle.region_tree.specs.Owners.{IsOwner, claims_at, has, is_kept, is_other}
use Rattle.region_tree.specs.Claims.{AreClaims, AreInOrder, AreOfOneGroup, AreOwn, AreReady, HaveOneWhole, IsBefore, IsFailing, IsFirstFailing, IsFirstMeeting, IsFirstMetBy, IsGroupCut, IsMet, NoneFails, NoneLeave, NoneMeets, NoneOverlap, NoneShare, last_found, later_before, limit_by, met_by, rects_kept, whole_number}
use Rattle.plane_gaps.specs.Gaps.{IsRect}
use Rattle.point_set.proofs.lemmas.Ahead.{in_or_not}
use Rattle.region_tree.proofs.Claiming.{by_part, of_part, whole_is}

-- ---- Group by group.

abbrev zero_claim : Claim
zero_claim = record { group = 0; sub = 0; rect = record { x0 = 0; x1 = 0; y0 = 0; y1 = 0 } }

-- the claims begin with those for the first group
pub groups_rise : (claims : List Claim) → AreInOrder claims → IsNonDecreasingBy (λ (c : Claim). c.group) claims
groups_rise claims order i j d le within = elim (cases_lt i j) [
  | inl lt ↦ (order i j d lt within).0
  | inr ge ↦ let e : i ≡ j = omega (arith, le, ge) in rw e (omega arith)
]

taken : (claims : List Claim) (k : ℕ) (c : Claim) → Contains (take k claims) c
    → (j : ℕ) × (j < k) × (j < length claims) × (get_or claims j c ≡ c)
taken claims k c h =
    let lt : h.0 < k = omega (arith, h.1, length-take k claims) in
    (h.0, lt, omega (arith, h.1, length-take k claims), sym (get_or-take k claims h.0 c lt) ∙ h.2)

dropped : (claims : List Claim) (k : ℕ) (c : Claim) → Contains (drop k claims) c
    → (j : ℕ) × (k ≤ j) × (j < length claims) × (get_or claims j c ≡ c)
dropped claims k c h = (k + h.0, omega arith, omega (arith, h.1, length-drop k claims), sym (get_or-drop k claims h.0 c) ∙ h.2)

pub group_cut : (claims : List Claim) (group k : ℕ) (d : Claim) → AreInOrder claims → 0 < length claims
    → (get_or claims 0 d).group ≡ group
    → IsPartitionPoint (λ (c : Claim). nat_le c.group group ≡ true) (λ (c : Claim). nat_le c.group group ≡ false) claims k
    → IsGroupCut claims (take k claims) (drop k claims)
group_cut claims group k d order some first parts =
    let least : (j : ℕ) (c : Claim) → j < length claims → group ≤ (get_or claims j c).group = λ j c lt.
    let same = ap (λ (e : Claim). e.group) (get_or_default claims 0 c d some) in
    let up = groups_rise claims order 0 j c (omega arith) lt in omega (arith, first, same, up) in
    let of_group : (c : Claim) → Contains (take k claims) c → c.group ≡ group = λ c h.
    let t = taken claims k c h in
    let le = leb-true _ _ (parts.0 t.0 c (omega arith) t.1) in
    let same = ap (λ (e : Claim). e.group) t.3 in
    omega (arith, le, same, least t.0 c t.2) in
    let past : (c : Claim) → Contains (drop k claims) c → group < c.group = λ c h.
    let t = dropped claims k c h in
    let gt = leb-false _ _ (parts.1 t.0 c t.1 t.2) in
    let same = ap (λ (e : Claim). e.group) t.3 in
    omega (arith, gt, same) in
    let none : 0 < k = elim (cases_lt 0 k) [
      | inl lt ↦ lt
      | inr le ↦ let gt = leb-false _ _ (parts.1 0 d (omega (arith, le)) some) in absurd (omega (arith, gt, first))
    ] in
    record {
      joined = sym (take-append-drop k claims);
      one = λ a b in_a in_b. of_group a in_a ∙ sym (of_group b in_b);
      others = λ a b in_a in_b same. omega (arith, of_group a in_a, past b in_b, same);
      shorter = omega (arith, length-drop k claims, none, some);
    }

-- what is known after the groups that were looked at
pub record IsPassed (d : Regions) (asked : Asked) (limit : ℕ) (claims rest : List Claim) (found : Option ℕ) : Type 0 where
  pub ready : AreReady rest
  pub wholes : HaveOneWhole d rest
  pub inside : (c : Claim) → Contains rest c → Contains claims c
  pub told : MatchOption found (NoneFails d asked limit rest → NoneFails d asked limit claims)
      (λ i. (i < limit) × ¬ NoneFails d asked (i + 1) claims)

pub none_passed : (d : Regions) (asked : Asked) (limit : ℕ) (claims : List Claim) → AreReady claims → HaveOneWhole d claims
    → IsPassed d asked limit claims claims None
none_passed d asked limit claims ready wholes = record { ready = ready; wholes = wholes; inside = λ c h. h; told = λ none. none }

in_group : (rest group behind : List Claim) (c : Claim) → IsGroupCut rest group behind → Contains group c → Contains rest c
in_group rest group behind c cut h = rw cut.joined (Contains-append_left group behind c h)

in_behind : (rest group behind : List Claim) (c : Claim) → IsGroupCut rest group behind → Contains behind c → Contains rest c
in_behind rest group behind c cut h = rw cut.joined (Contains-append_right group behind c h)

pub group_ready : (rest group behind : List Claim) → IsGroupCut rest group behind → AreReady rest → AreReady group
group_ready rest group behind cut ready = record {
  order = AllPairs-left IsBefore group behind (subst (AllPairs IsBefore) cut.joined ready.order);
  rects = λ c h. ready.rects c (in_group rest group behind c cut h);
  own = AllPairs-left AreOwn group behind (subst (AllPairs AreOwn) cut.joined ready.own);
}

behind_ready : (rest group behind : List Claim) → IsGroupCut rest group behind → AreReady rest → AreReady behind
behind_ready rest group behind cut ready = record {
  order = AllPairs-right IsBefore group behind (subst (AllPairs IsBefore) cut.joined ready.order);
  rects = λ c h. ready.rects c (in_behind rest group behind c cut h);
  own = AllPairs-right AreOwn group behind (subst (AllPairs AreOwn) cut.joined ready.own);
}

pub group_wholes : (d : Regions) (rest group behind : List Claim) → IsGroupCut rest group behind → HaveOneWhole d rest
    → HaveOneWhole d group
group_wholes d rest group behind cut wholes a b in_a in_b =
    wholes a b (in_group rest group behind a cut in_a) (in_group rest group behind b cut in_b)

-- what none of the claims has, none of some of them has
fewer : (d : Regions) (asked : Asked) (limit : ℕ) (claims some : List Claim) → ((c : Claim) → Contains some c → Contains claims c)
    → NoneFails d asked limit claims → NoneFails d asked limit some
fewer d (Apart also) limit claims some inside none = λ a b in_a in_b. none a b (inside a in_a) (inside b in_b)
fewer d Within limit claims some inside none = λ c h. none c (inside c h)

none_at_all : (d : Regions) (asked : Asked) (limit : ℕ) → NoneFails d asked limit []
none_at_all d (Apart also) limit = λ a b in_a. absurd (omega (arith, in_a.1))
none_at_all d Within limit = λ c h. absurd (omega (arith, h.1))

both_none : (d : Regions) (asked : Asked) (limit : ℕ) (rest group behind : List Claim) → IsGroupCut rest group behind
    → NoneFails d asked limit group → NoneFails d asked limit behind → NoneFails d asked limit rest
both_none d (Apart also) limit rest group behind cut left right = λ a b in_a in_b kept_a kept_b same ne.
    elim (Contains-append_cases group behind a (subst (λ cs. Contains cs a) cut.joined in_a)) [
      | inl a_left ↦ elim (Contains-append_cases group behind b (subst (λ cs. Contains cs b) cut.joined in_b)) [
        | inl b_left ↦ left a b a_left b_left kept_a kept_b same ne
        | inr b_right ↦ absurd (cut.others a b a_left b_right same)
      ]
      | inr a_right ↦ elim (Contains-append_cases group behind b (subst (λ cs. Contains cs b) cut.joined in_b)) [
        | inl b_left ↦ absurd (cut.others b a b_left a_right (sym same))
        | inr b_right ↦ right a b a_right b_right kept_a kept_b same ne
      ]
    ]
both_none d Within limit rest group behind cut left right = λ c h kept.
    elim (Contains-append_cases group behind c (subst (λ cs. Contains cs c) cut.joined h)) [
      | inl in_group ↦ left c in_group kept
      | inr in_behind ↦ right c in_behind kept
    ]

-- what is told of the claims, with one group more
told_more : (d : Regions) (asked : Asked) (limit : ℕ) (claims rest group behind : List Claim) (before new : Option ℕ)
    → IsPassed d asked limit claims rest before → IsGroupCut rest group behind
    → IsFailing d asked (limit_by before limit) group new
    → MatchOption (last_found before new) (NoneFails d asked limit behind → NoneFails d asked limit claims)
    (λ i. (i < limit) × ¬ NoneFails d asked (i + 1) claims)
told_more d asked limit claims rest group behind None None passed cut failing = λ more.
    passed.told (both_none d asked limit rest group behind cut failing more)
told_more d asked limit claims rest group behind (Some i) None passed cut failing = passed.told
told_more d asked limit claims rest group behind None (Some j) passed cut failing = (
  failing.0,
  λ none. failing.1 (fewer d asked (j + 1) claims group (λ c h. passed.inside c (in_group rest group behind c cut h)) none),
)
told_more d asked limit claims rest group behind (Some i) (Some j) passed cut failing = (
  omega (arith, failing.0, passed.told.0),
  λ none. failing.1 (fewer d asked (j + 1) claims group (λ c h. passed.inside c (in_group rest group behind c cut h)) none),
)

pub group_passed : (d : Regions) (asked : Asked) (limit : ℕ) (claims rest group behind : List Claim) (before new : Option ℕ)
    → IsPassed d asked limit claims rest before → IsGroupCut rest group behind
    → IsFailing d asked (limit_by before limit) group new
    → IsPassed d asked limit claims behind (last_found before new)
group_passed d asked limit claims rest group behind before new passed cut failing = record {
  ready = behind_ready rest group behind cut passed.ready;
  wholes = λ a b in_a in_b. passed.wholes a b (in_behind rest group behind a cut in_a) (in_behind rest group behind b cut in_b);
  inside = λ c h. passed.inside c (in_behind rest group behind c cut h);
  told = told_more d asked limit claims rest group behind before new passed cut failing;
}

pub all_passed : (d : Regions) (asked : Asked) (limit : ℕ) (claims rest : List Claim) (found : Option ℕ)
    → IsPassed d asked limit claims rest found → rest ≡ [] → IsFailing d asked limit claims found
all_passed d asked limit claims rest None passed none =
    passed.told (subst (λ (cs : List Claim). NoneFails d asked limit cs) (sym none) (none_at_all d asked limit))
all_passed d asked limit claims rest (Some i) passed none = passed.told

-- ---- The rectangles for one group.

kept_at : (asked : Asked) (limit : ℕ) (claims : List Claim) (k : ℕ) (d : Rect) → AreReady claims
    → k < length (rects_kept asked limit claims) → (c : Claim) × Contains claims c × (get_or (rects_kept asked limit claims) k d ≡ c.rect)
kept_at asked limit claims k d ready lt =
    let kept : List Claim = filter (λ (c : Claim). is_kept asked limit c.sub) claims in
    let in_kept : k < length kept = omega (arith, lt, length-map kept (λ (c : Claim). c.rect)) in
    let c = get_or kept k zero_claim in (
      c,
      (of_filter (λ (e : Claim). is_kept asked limit e.sub) claims c (Contains-get_or kept k zero_claim in_kept)).0,
      get_or-map (λ (e : Claim). e.rect) kept k zero_claim d in_kept,
    )

kept_rects : (asked : Asked) (limit : ℕ) (claims : List Claim) (k : ℕ) (d : Rect) → AreReady claims
    → k < length (rects_kept asked limit claims) → IsRect (get_or (rects_kept asked limit claims) k d)
kept_rects asked limit claims k d ready lt = let s = kept_at asked limit claims k d ready lt in rw s.2 (ready.rects s.0 s.1)

pub kept_some : (asked : Asked) (limit : ℕ) (claims : List Claim) (rects : List Rect) → AreReady claims
    → rects ≡ rects_kept asked limit claims → All (λ (r : Rect). (r.x0 ≤ r.x1) × (r.y0 ≤ r.y1)) rects
kept_some asked limit claims rects ready is = rw is (λ k d lt. let r = kept_rects asked limit claims k d ready lt in (r.wide, r.tall))

pub kept_fits : (asked : Asked) (limit : ℕ) (claims : List Claim) (rects : List Rect) → AreReady claims
    → rects ≡ rects_kept asked limit claims → AreSmall rects
kept_fits asked limit claims rects ready is = rw is (λ k d lt. let r = kept_rects asked limit claims k d ready lt in (r.x_fits, r.y_fits))

pub kept_order : (asked : Asked) (limit : ℕ) (claims : List Claim) → AreReady claims → AreOfOneGroup claims
    → AllPairs IsNoHigher (rects_kept asked limit claims)
kept_order asked limit claims ready one i j d lt within =
    let p : Claim → Bool = λ (c : Claim). is_kept asked limit c.sub in
    let kept : List Claim = filter p claims in
    let in_j : j < length kept = omega (arith, within, length-map kept (λ (c : Claim). c.rect)) in
    let in_i : i < length kept = omega (arith, lt, in_j) in
    let a = get_or kept i zero_claim in
    let b = get_or kept j zero_claim in
    let before = AllPairs-filter IsBefore p claims ready.order i j zero_claim lt in_j in
    let same = one a b (of_filter p claims a (Contains-get_or kept i zero_claim in_i)).0
    (of_filter p claims b (Contains-get_or kept j zero_claim in_j)).0 in
    rw (get_or-map (λ (e : Claim). e.rect) kept i zero_claim d in_i, get_or-map (λ (e : Claim). e.rect) kept j zero_claim d in_j)
    (before.1 same)

apart_back : (r s : Rect) → AreApart r s → AreApart s r
apart_back r s apart x y h k = apart x y k h

pub apart_none : (also limit : ℕ) (claims : List Claim) → AllPairs AreApart (rects_kept (Apart also) limit claims)
    → NoneOverlap also limit claims
apart_none also limit claims apart a b in_a in_b kept_a kept_b same_group ne =
    let p : Claim → Bool = λ (c : Claim). is_kept (Apart also) limit c.sub in
    let kept : List Claim = filter p claims in
    let at_a : Contains kept a = in_filter p claims a in_a kept_a in
    let at_b : Contains kept b = in_filter p claims b in_b kept_b in
    let len = length-map kept (λ (c : Claim). c.rect) in
    let other : at_a.0 ≢ at_b.0 = λ same.
    let e : a ≡ b = sym at_a.2 ∙ ap (λ k. get_or kept k a) same ∙ get_or_default kept at_b.0 a b at_b.1 ∙ at_b.2 in
    ne (ap (λ (c : Claim). c.sub) e) in
    let h = any_two AreApart (rects_kept (Apart also) limit claims) at_a.0 at_b.0 a.rect apart_back apart other (omega (arith, at_a.1, len))
    (omega (arith, at_b.1, len)) in
    let see_a : get_or (rects_kept (Apart also) limit claims) at_a.0 a.rect ≡ a.rect =
    get_or-map (λ (c : Claim). c.rect) kept at_a.0 a a.rect at_a.1 ∙ ap (λ (c : Claim). c.rect) at_a.2 in
    let see_b : get_or (rects_kept (Apart also) limit claims) at_b.0 a.rect ≡ b.rect =
    get_or-map (λ (c : Claim). c.rect) kept at_b.0 b a.rect at_b.1 ∙ ap (λ (c : Claim). c.rect) at_b.2 in
    subst (AreApart a.rect) see_b (subst (λ (r : Rect). AreApart r (get_or (rects_kept (Apart also) limit claims) at_b.0 a.rect)) see_a h)

-- no two have a point, where all kept claims that have it are of one subspace
none_share : (also limit : ℕ) (claims : List Claim) (p : Point) → AreReady claims
    → ((a b : Claim) → Contains claims a → Contains claims b → is_kept (Apart also) limit a.sub ≡ true
    → is_kept (Apart also) limit b.sub ≡ true → Holds a.rect p.x p.y → Holds b.rect p.x p.y → a.sub ≡ b.sub)
    → NoneShare also limit claims p
none_share also limit claims p ready one i j d lt within =
    let q : Claim → Bool = λ (c : Claim). is_kept (Apart also) limit c.sub in
    let kept : List Claim = filter q claims in
    let in_j : j < length kept = omega (arith, within, length-map kept (λ (c : Claim). c.rect)) in
    let in_i : i < length kept = omega (arith, lt, in_j) in
    let a = get_or kept i zero_claim in
    let b = get_or kept j zero_claim in
    let of_a = of_filter q claims a (Contains-get_or kept i zero_claim in_i) in
    let of_b = of_filter q claims b (Contains-get_or kept j zero_claim in_j) in
    rw (get_or-map (λ (e : Claim). e.rect) kept i zero_claim d in_i, get_or-map (λ (e : Claim). e.rect) kept j zero_claim d in_j)
    (λ here there. AllPairs-filter AreOwn q claims ready.own i j zero_claim lt in_j
    (one a b of_a.0 of_b.0 of_a.1 of_b.1 here there) p.x p.y here there)

-- ---- Which subspaces are kept.

is_before : (also limit sub : ℕ) → sub < limit → is_kept (Apart also) limit sub ≡ true
is_before also limit sub lt = rw (lt-ltb sub limit lt) refl

is_also : (also limit : ℕ) → is_kept (Apart also) limit also ≡ true
is_also also limit = elim (cases_Bool (nat_lt also limit)) [ inl so ↦ rw so refl | inr nay ↦ rw nay (eq-eqb also also refl) ]

pub which_kept : (also limit sub : ℕ) → is_kept (Apart also) limit sub ≡ true → (sub < limit) ⊎ (sub ≡ also)
which_kept also limit sub kept = elim (cases_Bool (nat_lt sub limit)) [
  | inl so ↦ inl (ltb-true sub limit so)
  | inr nay ↦ let h : nat_eq sub also ≡ true = rw nay at kept in inr (eqb-true sub also h)
]

-- ---- Which subspaces claim a point.

holds_of : (p : Point) (r : Rect) → has p r ≡ true → Holds r p.x p.y
holds_of p r h =
    let a = and_parts (nat_le r.x0 p.x) (nat_le p.x r.x1 && (nat_le r.y0 p.y && nat_le p.y r.y1)) h in
    let b = and_parts (nat_le p.x r.x1) (nat_le r.y0 p.y && nat_le p.y r.y1) a.1 in
    let c = and_parts (nat_le r.y0 p.y) (nat_le p.y r.y1) b.1 in
    record { left = leb-true _ _ a.0; right = leb-true _ _ b.0; low = leb-true _ _ c.0; high = leb-true _ _ c.1 }

has_of : (p : Point) (r : Rect) → Holds r p.x p.y → has p r ≡ true
has_of p r h =
    and_from (nat_le r.x0 p.x) (nat_le p.x r.x1 && (nat_le r.y0 p.y && nat_le p.y r.y1)) (le-leb r.x0 p.x h.left)
    (and_from (nat_le p.x r.x1) (nat_le r.y0 p.y && nat_le p.y r.y1) (le-leb p.x r.x1 h.right)
    (and_from (nat_le r.y0 p.y) (nat_le p.y r.y1) (le-leb r.y0 p.y h.low) (le-leb p.y r.y1 h.high)))

-- what a claim on the point tells
claim_told : (asked : Asked) (limit : ℕ) (p : Point) (but : Option ℕ) (c : Claim) → claims_at asked limit p but c ≡ true
    → Holds c.rect p.x p.y × (is_kept asked limit c.sub ≡ true) × (is_other but c.sub ≡ true)
claim_told asked limit p but c h =
    let a = and_parts (has p c.rect) (is_kept asked limit c.sub && is_other but c.sub) h in
    let b = and_parts (is_kept asked limit c.sub) (is_other but c.sub) a.1 in
    (holds_of p c.rect a.0, b.0, b.1)

claim_from : (asked : Asked) (limit : ℕ) (p : Point) (but : Option ℕ) (c : Claim) → Holds c.rect p.x p.y
    → is_kept asked limit c.sub ≡ true → is_other but c.sub ≡ true → claims_at asked limit p but c ≡ true
claim_from asked limit p but c holds kept other =
    and_from (has p c.rect) (is_kept asked limit c.sub && is_other but c.sub) (has_of p c.rect holds)
    (and_from (is_kept asked limit c.sub) (is_other but c.sub) kept other)

still_taken : (claims : List Claim) (k : ℕ) (c : Claim) → Contains (take k claims) c → Contains (take (k + 1) claims) c
still_taken claims k c h =
    let t = taken claims k c h in
    let lt : t.0 < k + 1 = omega (arith, t.1) in
    (t.0, omega (arith, t.1, t.2, length-take (k + 1) claims), get_or-take (k + 1) claims t.0 c lt ∙ t.3)

last_taken : (claims : List Claim) (k : ℕ) (d : Claim) → k < length claims → Contains (take (k + 1) claims) (get_or claims k d)
last_taken claims k d lt =
    let c = get_or claims k d in
    let less : k < k + 1 = omega arith in
    (k, omega (arith, lt, length-take (k + 1) claims), get_or-take (k + 1) claims k c less ∙ get_or_default claims k c d lt)

pub owner_more : (asked : Asked) (limit : ℕ) (p : Point) (but : Option ℕ) (claims : List Claim) (k : ℕ) (d : Claim)
    (found : Option ℕ) → k < length claims → IsOwner asked limit p but (take k claims) found
    → claims_at asked limit p but (get_or claims k d) ≡ true
    → IsOwner asked limit p but (take (k + 1) claims)
    (Some (option_map_or (λ least. min least (get_or claims k d).sub) found (get_or claims k d).sub))
owner_more asked limit p but claims k d None lt owner hit = (get_or claims k d, last_taken claims k d lt, refl, hit)
owner_more asked limit p but claims k d (Some i) lt owner hit = elim (cases_lt i (get_or claims k d).sub) [
  | inl less ↦
      let least : i ≡ min i (get_or claims k d).sub = omega (arith, less) in
      (owner.0, still_taken claims k owner.0 owner.1, owner.2 ∙ least, owner.3)
  | inr le ↦
      let least : (get_or claims k d).sub ≡ min i (get_or claims k d).sub = omega (arith, le) in
      (get_or claims k d, last_taken claims k d lt, least, hit)
]

pub owner_still : (asked : Asked) (limit : ℕ) (p : Point) (but : Option ℕ) (claims : List Claim) (k : ℕ) (d : Claim)
    (found : Option ℕ) → k < length claims → IsOwner asked limit p but (take k claims) found
    → claims_at asked limit p but (get_or claims k d) ≡ false → IsOwner asked limit p but (take (k + 1) claims) found
owner_still asked limit p but claims k d None lt owner miss = λ c h.
    let t = taken claims (k + 1) c h in
    elim (cases_lt t.0 k) [
      | inl less ↦ owner c (t.0, omega (arith, less, t.2, length-take k claims), get_or-take k claims t.0 c less ∙ t.3)
      | inr le ↦
          let e : t.0 ≡ k = omega (arith, le, t.1) in
          let same : get_or claims k d ≡ c = get_or_default claims k d c lt ∙ subst (λ j. get_or claims j c ≡ c) e t.3 in
          subst (λ a. claims_at asked limit p but a ≡ false) same miss
    ]
owner_still asked limit p but claims k d (Some i) lt owner miss =
    (owner.0, still_taken claims k owner.0 owner.1, owner.2, owner.3)

not_true : (b : Bool) → not b ≡ true → b ≡ false
not_true true h = cc
not_true false h = refl

other_told : (i j : ℕ) → is_other (Some i) j ≡ true → i ≢ j
other_told i j h = λ same. both_ways (nat_eq i j) (not_true (nat_eq i j) h) (eq-eqb i j same)

other_from : (i j : ℕ) → (i ≡ j → ⊥) → is_other (Some i) j ≡ true
other_from i j ne = elim (cases_Bool (nat_eq i j)) [ inl so ↦ absurd (ne (eqb-true i j so)) | inr nay ↦ rw nay refl ]

-- no kept claim has the point
pub none_first : (also limit : ℕ) (claims : List Claim) (p : Point) → AreReady claims
    → IsOwner (Apart also) limit p None claims None → NoneShare also limit claims p
none_first also limit claims p ready none = none_share also limit claims p ready (λ a b in_a in_b kept_a kept_b here there.
    absurd (both_ways (claims_at (Apart also) limit p None a) (none a in_a) (claim_from (Apart also) limit p None a here kept_a refl)))

the_same : (also limit i : ℕ) (claims : List Claim) (p : Point) (a : Claim) → IsOwner (Apart also) limit p (Some i) claims None
    → Contains claims a → is_kept (Apart also) limit a.sub ≡ true → Holds a.rect p.x p.y → i ≡ a.sub
the_same also limit i claims p a none in_a kept here = elim (cases_eq i a.sub) [
  | inl e ↦ e
  | inr ne ↦ absurd (both_ways (claims_at (Apart also) limit p (Some i) a) (none a in_a)
      (claim_from (Apart also) limit p (Some i) a here kept (other_from i a.sub ne)))
]

-- all that have it are of one subspace
pub none_second : (also limit i : ℕ) (claims : List Claim) (p : Point) → AreReady claims
    → IsOwner (Apart also) limit p (Some i) claims None → NoneShare also limit claims p
none_second also limit i claims p ready none = none_share also limit claims p ready (λ a b in_a in_b kept_a kept_b here there.
    sym (the_same also limit i claims p a none in_a kept_a here) ∙ the_same also limit i claims p b none in_b kept_b there)

-- a kept subspace is kept before its own end, or where it is looked at with the others
kept_below : (also limit m sub : ℕ) → is_kept (Apart also) limit sub ≡ true → (sub < limit → sub ≤ m)
    → is_kept (Apart also) (m + 1) sub ≡ true
kept_below also limit m sub kept below = elim (which_kept also limit sub kept) [
  | inl lt ↦ is_before also (m + 1) sub (omega (arith, below lt))
  | inr same ↦ rw same (is_also also (m + 1))
]

-- of two kept subspaces, the later one that is before the limit
later_told : (also limit i j : ℕ) → i ≢ j → is_kept (Apart also) limit i ≡ true → is_kept (Apart also) limit j ≡ true
    → (later_before limit i j < limit) × (i < limit → i ≤ later_before limit i j) × (j < limit → j ≤ later_before limit i j)
later_told also limit i j ne kept_i kept_j = elim (cases_lt (max i j) limit) [
  | inl lt ↦ rw (lt-ltb (max i j) limit lt) (lt, λ _. omega arith, λ _. omega arith)
  | inr le ↦
      let no : (i ≡ j → ⊥) = ne in
      rw (le-ltb (max i j) limit le) (elim (which_kept also limit i kept_i) [
        | inl less ↦ (omega (arith, less), λ _. omega (arith, less, le), λ l. omega (arith, less, le, l))
        | inr at_i ↦ elim (which_kept also limit j kept_j) [
          | inl less ↦ (omega (arith, less), λ l. omega (arith, less, le, l), λ _. omega (arith, less, le))
          | inr at_j ↦ absurd (no (at_i ∙ sym at_j))
        ]
      ])
]

pub meeting_told : (also limit i j : ℕ) (claims : List Claim) (p : Point) → AreOfOneGroup claims
    → IsOwner (Apart also) limit p None claims (Some i) → IsOwner (Apart also) limit p (Some i) claims (Some j)
    → (later_before limit i j < limit) × ¬ NoneOverlap also (later_before limit i j + 1) claims
meeting_told also limit i j claims p one first second =
    let m = later_before limit i j in
    let a = claim_told (Apart also) limit p None first.0 first.3 in
    let b = claim_told (Apart also) limit p (Some i) second.0 second.3 in
    let kept_i : is_kept (Apart also) limit i ≡ true = subst (λ k. is_kept (Apart also) limit k ≡ true) first.2 a.1 in
    let kept_j : is_kept (Apart also) limit j ≡ true = subst (λ k. is_kept (Apart also) limit k ≡ true) second.2 b.1 in
    let other : i ≢ j = λ e. other_told i second.0.sub b.2 (e ∙ sym second.2) in
    let later = later_told also limit i j other kept_i kept_j in (
      later.0,
      λ none. none first.0 second.0 first.1 second.1
          (subst (λ k. is_kept (Apart also) (m + 1) k ≡ true) (sym first.2) (kept_below also limit m i kept_i later.1))
          (subst (λ k. is_kept (Apart also) (m + 1) k ≡ true) (sym second.2) (kept_below also limit m j kept_j later.2))
          (one first.0 second.0 first.1 second.1) (λ e. other (sym first.2 ∙ e ∙ second.2)) p.x p.y a.0 b.0,
    )

-- what a group tells, where two of its rectangles have a point
pub group_tells : (also limit : ℕ) (claims : List Claim) (p : Point) (found : Option ℕ) → ¬ NoneShare also limit claims p
    → MatchOption found (NoneShare also limit claims p) (λ i. (i < limit) × ¬ NoneOverlap also (i + 1) claims)
    → MatchOption found (NoneOverlap also limit claims) (λ i. (i < limit) × ¬ NoneOverlap also (i + 1) claims)
group_tells also limit claims p None some told = absurd (some told)
group_tells also limit claims p (Some i) some told = told

-- ---- Whether the kept rectangles of a group are held by its whole.

kept_seen : (limit : ℕ) (claims : List Claim) (c : Claim) → Contains claims c → is_kept Within limit c.sub ≡ true
    → Contains (rects_kept Within limit claims) c.rect
kept_seen limit claims c h kept =
    let q : Claim → Bool = λ (c : Claim). is_kept Within limit c.sub in
    let at : Contains (filter q claims) c = in_filter q claims c h kept in (
      at.0,
      omega (arith, at.1, length-map (filter q claims) (λ (e : Claim). e.rect)),
      get_or-map (λ (e : Claim). e.rect) (filter q claims) at.0 c c.rect at.1 ∙ ap (λ (e : Claim). e.rect) at.2,
    )

seen_kept : (limit : ℕ) (claims : List Claim) (r : Rect) → Contains (rects_kept Within limit claims) r
    → (c : Claim) × Contains claims c × (is_kept Within limit c.sub ≡ true) × (c.rect ≡ r)
seen_kept limit claims r h =
    let q : Claim → Bool = λ (c : Claim). is_kept Within limit c.sub in
    let lt : h.0 < length (filter q claims) = omega (arith, h.1, length-map (filter q claims) (λ (c : Claim). c.rect)) in
    let c = get_or (filter q claims) h.0 zero_claim in
    let of = of_filter q claims c (Contains-get_or (filter q claims) h.0 zero_claim lt) in
    (c, of.0, of.1, sym (get_or-map (λ (e : Claim). e.rect) (filter q claims) h.0 zero_claim r lt) ∙ h.2)

pub held_tells : (d : Regions) (limit : ℕ) (claims : List Claim) (first : Claim) (rects : List Rect)
    → HaveOneWhole d claims → AreOfOneGroup claims → Contains claims first → rects ≡ rects_kept Within limit claims
    → AreHeld (whole_at d first.sub) rects → NoneLeave d limit claims
held_tells d limit claims first rects wholes one in_first is held c h kept =
    subst (λ ps. IsHeld ps c.rect) (wholes first c in_first h (one first c in_first h))
    (held c.rect (subst (λ (rs : List Rect). Contains rs c.rect) (sym is) (kept_seen limit claims c h kept)))

pub leaving_told : (d : Regions) (limit : ℕ) (claims : List Claim) (first : Claim) (rects : List Rect) (p : Point)
    (found : Option ℕ) → HaveOneWhole d claims → AreOfOneGroup claims → Contains claims first
    → rects ≡ rects_kept Within limit claims → HasAt rects p → ¬ Contains (whole_at d first.sub) (p.x * 2 ^ 32 + p.y)
    → IsOwner Within limit p None claims found
    → MatchOption found (NoneLeave d limit claims) (λ i. (i < limit) × ¬ NoneLeave d (i + 1) claims)
leaving_told d limit claims first rects p None wholes one in_first is at missed owner =
    let seen = seen_kept limit claims at.0 (subst (λ (rs : List Rect). Contains rs at.0) is at.1) in
    let holds : Holds seen.0.rect p.x p.y = subst (λ (r : Rect). Holds r p.x p.y) (sym seen.3) at.2 in
    absurd (both_ways (claims_at Within limit p None seen.0) (owner seen.0 seen.1)
    (claim_from Within limit p None seen.0 holds seen.2 refl))
leaving_told d limit claims first rects p (Some i) wholes one in_first is at missed owner =
    let told = claim_told Within limit p None owner.0 owner.3 in
    let lt : owner.0.sub < limit = ltb-true owner.0.sub limit told.1 in (
      omega (arith, lt, owner.2),
      λ none. missed (subst (λ ps. Contains ps (p.x * 2 ^ 32 + p.y))
          (wholes owner.0 first owner.1 in_first (one owner.0 first owner.1 in_first))
          (none owner.0 owner.1 (lt-ltb owner.0.sub (i + 1) (omega (arith, owner.2))) p.x p.y told.0)),
    )

-- ---- Which subspaces meet.

met_not : (d : Regions) (n also limit : ℕ) (claims : List Claim) (i j : ℕ) → AreClaims d (Apart 0) n claims → length d.subs ≤ n
    → NoneOverlap also limit claims → is_kept (Apart also) limit i ≡ true → is_kept (Apart also) limit j ≡ true → ¬ MeetsEarlier d i j
met_not d n also limit claims i j are all none kept_i kept_j h =
    let p = h.0 in
    let m = h.1 in
    let s = m.0 in
    let t = m.1 in
    let x = p / 2 ^ 32 in
    let y = p % 2 ^ 32 in
    let is : p ≡ x * 2 ^ 32 + y = sym (div-add-mod' p (2 ^ 32)) in
    let fits : y < 2 ^ 32 = omega arith in
    let within = slice_get_within d.subs i s m.3 in
    let disjoint : IsTrue (is_disjoint d t.part) = subst (λ k. IsTrue (is_disjoint d k)) m.5.0 m.5.1 in
    let a = are.whole i s.part x y (omega (arith, within, all)) fits (
      s,
      m.3,
      by_part d s 0 m.5.1,
      subst (Contains (space_points d s.space)) is m.5.2,
    ) in
    let b = are.whole j t.part x y (omega (arith, within, all, m.2)) fits (
      t,
      m.4,
      by_part d t 0 disjoint,
      subst (Contains (space_points d t.space)) is m.5.3,
    ) in
    let u = (are.sound a.0 a.1).1 in
    let v = (are.sound b.0 b.1).1 in
    let same_a : u.0 ≡ s = same_Some u.0 s (sym u.1 ∙ ap (slice_get d.subs) a.2 ∙ m.3) in
    let same_b : v.0 ≡ t = same_Some v.0 t (sym v.1 ∙ ap (slice_get d.subs) b.2 ∙ m.4) in
    let group_a = (of_part d u.0 0 a.0.group u.2).0 in
    let group_b = (of_part d v.0 0 b.0.group v.2).0 in
    let same : a.0.group ≡ b.0.group =
    sym group_a ∙ ap (λ (w : Sub). w.part) same_a ∙ m.5.0 ∙ ap (λ (w : Sub). w.part) (sym same_b) ∙ group_b in
    none a.0 b.0 a.1 b.1 (subst (λ k. is_kept (Apart also) limit k ≡ true) (sym a.2) kept_i)
    (subst (λ k. is_kept (Apart also) limit k ≡ true) (sym b.2) kept_j) same
    (λ e. omega (arith, e, a.2, b.2, m.2)) x y a.3 b.3

met_at : (d : Regions) (n x y : ℕ) (claims : List Claim) (a b : Claim) → AreClaims d (Apart 0) n claims → Contains claims a
    → Contains claims b → a.group ≡ b.group → Holds a.rect x y → Holds b.rect x y → b.sub < a.sub → MeetsEarlier d a.sub b.sub
met_at d n x y claims a b are in_a in_b same here there lt =
    let u = (are.sound a in_a).1 in
    let v = (are.sound b in_b).1 in
    let group_a = of_part d u.0 0 a.group u.2 in
    let group_b = of_part d v.0 0 b.group v.2 in (
      x * 2 ^ 32 + y,
      (
        u.0,
        v.0,
        lt,
        u.1,
        v.1,
        (
          group_a.0 ∙ same ∙ sym group_b.0,
          group_a.1,
          u.3 x y here,
          v.3 x y there,
        ),
      ),
    )

none_met : (d : Regions) (n also limit : ℕ) (claims : List Claim) → AreClaims d (Apart 0) n claims
    → ((i j : ℕ) → is_kept (Apart also) limit i ≡ true → is_kept (Apart also) limit j ≡ true → ¬ MeetsEarlier d i j)
    → NoneOverlap also limit claims
none_met d n also limit claims are none a b in_a in_b kept_a kept_b same ne x y here there = elim (cases_lt b.sub a.sub) [
  | inl lt ↦ none a.sub b.sub kept_a kept_b (met_at d n x y claims a b are in_a in_b same here there lt)
  | inr le ↦
      let no : (a.sub ≡ b.sub → ⊥) = ne in
      none b.sub a.sub kept_b kept_a (met_at d n x y claims b a are in_b in_a (sym same) there here (omega (arith, le)))
]

earlier : (d : Regions) (i j : ℕ) → MeetsEarlier d i j → j < i
earlier d i j h = h.1.2

-- ---- The first of them.

pub none_meets : (d : Regions) (claims : List Claim) → AreClaims d (Apart 0) (length d.subs) claims → NoneOverlap 0 (length d.subs) claims
    → (i j : ℕ) → ¬ MeetsEarlier d i j
none_meets d claims are none i j h =
    let within = slice_get_within d.subs i h.1.0 h.1.3 in
    met_not d (length d.subs) 0 (length d.subs) claims i j are (omega arith) none (is_before 0 (length d.subs) i within)
    (is_before 0 (length d.subs) j (omega (arith, within, earlier d i j h))) h

-- none before the first meeting
none_earlier : (d : Regions) (claims : List Claim) (i : ℕ) → AreClaims d (Apart 0) (length d.subs) claims
    → NoneOverlap 0 i claims → NoneMeets d i
none_earlier d claims i are none a b lt h =
    met_not d (length d.subs) 0 i claims a b are (omega arith) none (is_before 0 i a lt)
    (is_before 0 i b (omega (arith, lt, earlier d a b h))) h

pub some_met : (d : Regions) (claims : List Claim) (i : ℕ) → AreClaims d (Apart 0) (length d.subs) claims → NoneOverlap 0 i claims
    → (NoneOverlap 0 (i + 1) claims → ⊥) → NoneOverlap i i claims → ⊥
some_met d claims i are before some none =
    some (none_met d (length d.subs) 0 (i + 1) claims are (λ a b kept_a kept_b h.
    let lt = earlier d a b h in
    let le : a < i + 1 = elim (which_kept 0 (i + 1) a kept_a) [ inl less ↦ less | inr zero ↦ absurd (omega (arith, zero, lt)) ] in
    elim (cases_eq a i) [
      | inl e ↦
          met_not d (length d.subs) i i claims i b are (omega arith) none (is_also i i) (is_before i i b (omega (arith, lt, e)))
          (subst (λ k. MeetsEarlier d k b) e h)
      | inr ne ↦ let no : (a ≡ i → ⊥) = ne in none_earlier d claims i are before a b (omega (arith, le)) h
    ]))

pub first_met : (d : Regions) (claims : List Claim) (i j : ℕ) → AreClaims d (Apart 0) (length d.subs) claims → NoneOverlap 0 i claims
    → IsFirstFailing d claims (Apart i) i (Some j) → NoneMeets d i × IsFirstMetBy d i j
first_met d claims i j are before first =
    let none = none_earlier d claims i are before in
    let past : (k : ℕ) → k < j → ¬ MeetsEarlier d i k =
    λ k lt. met_not d (length d.subs) i j claims i k are (omega arith) first.1 (is_also i j) (is_before i j k lt) in (
      none,
      record {
        earlier = first.0;
        before = past;
        meets = λ not_met. first.2 (none_met d (length d.subs) i (j + 1) claims are (λ a b kept_a kept_b h.
            let lt = earlier d a b h in
            elim (cases_eq a i) [
              | inl e ↦
                  let h' : MeetsEarlier d i b = subst (λ k. MeetsEarlier d k b) e h in
                  let le : b < j + 1 =
                  elim (which_kept i (j + 1) b kept_b) [ inl less ↦ less | inr same ↦ absurd (omega (arith, same, lt, e)) ] in
                  elim (cases_eq b j) [
                    | inl same ↦ not_met (subst (MeetsEarlier d i) same h')
                    | inr other ↦ let no : (b ≡ j → ⊥) = other in past b (omega (arith, le)) h'
                  ]
              | inr ne ↦
                  let no : (a ≡ i → ⊥) = ne in
                  let less : a < i = elim (which_kept i (j + 1) a kept_a) [
                    | inl le ↦ omega (arith, le, first.0)
                    | inr same ↦
                        absurd (ne same)
                  ] in
                  none a b less h
            ]));
      },
    )

-- ---- The search.

pub none_at_first : (d : Regions) (asked : Asked) (claims : List Claim) → NoneFails d asked 0 claims
none_at_first d (Apart also) claims = λ a b in_a in_b kept_a kept_b same ne.
    let is : (s : ℕ) → is_kept (Apart also) 0 s ≡ true → s ≡ also =
    λ s kept. elim (which_kept also 0 s kept) [ inl lt ↦ absurd (omega (arith, lt)) | inr e ↦ e ] in
    absurd (ne (is a.sub kept_a ∙ sym (is b.sub kept_b)))
none_at_first d Within claims = λ c h kept. absurd (omega (arith, ltb-true c.sub 0 kept))

-- where none fails before a limit, none fails before a lower one
none_below : (d : Regions) (asked : Asked) (m n : ℕ) (claims : List Claim) → m ≤ n → NoneFails d asked n claims
    → NoneFails d asked m claims
none_below d (Apart also) m n claims le none = λ a b in_a in_b kept_a kept_b.
    let more : (s : ℕ) → is_kept (Apart also) m s ≡ true → is_kept (Apart also) n s ≡ true =
    λ s kept. elim (which_kept also m s kept) [
      | inl lt ↦ is_before also n s (omega (arith, lt, le))
      | inr e ↦ rw e (is_also also n)
    ] in
    none a b in_a in_b (more a.sub kept_a) (more b.sub kept_b)
none_below d Within m n claims le none = λ c h kept. none c h (lt-ltb c.sub n (omega (arith, ltb-true c.sub m kept, le)))

-- so one that is told stands behind it
pub told_behind : (d : Regions) (asked : Asked) (low i : ℕ) (claims : List Claim) → NoneFails d asked low claims
    → ¬ NoneFails d asked (i + 1) claims → low < i + 1
told_behind d asked low i claims none some = elim (cases_lt low (i + 1)) [
  | inl lt ↦ lt
  | inr le ↦ absurd (some (none_below d asked (i + 1) low claims le none))
]

pub failing_none : (d : Regions) (asked : Asked) (limit : ℕ) (claims : List Claim) (o : Option ℕ)
    → ((i : ℕ) → o ≡ Some i → ⊥) → IsFailing d asked limit claims o → NoneFails d asked limit claims
failing_none d asked limit claims None not_some failing = failing
failing_none d asked limit claims (Some i) not_some failing = absurd (not_some i refl)

pub failing_some : (d : Regions) (asked : Asked) (limit i : ℕ) (claims : List Claim) (o : Option ℕ) → o ≡ Some i
    → IsFailing d asked limit claims o → (i < limit) × ¬ NoneFails d asked (i + 1) claims
failing_some d asked limit i claims o is failing = subst (IsFailing d asked limit claims) is failing

-- what the first meeting says of one subspace, where those before it are not faulty
pub met_here : (d : Regions) (i : ℕ) (o : Option (ℕ × ℕ)) → IsFirstMeeting d o → ((k j : ℕ) → k < i → ¬ MeetsEarlier d k j)
    → IsMet d i (met_by o i)
met_here d i None none before = λ j h. none i j h
met_here d i (Some met) first before = elim (cases_eq met.0 i) [
  | inl e ↦ rw (eq-eqb met.0 i e) (subst (λ k. IsFirstMetBy d k met.1) e first.1)
  | inr ne ↦
      let no : nat_eq met.0 i ≡ false = elim (cases_Bool (nat_eq met.0 i)) [ inl so ↦ absurd (ne (eqb-true met.0 i so)) | inr nay ↦ nay ] in
      rw no (λ j h. elim (cases_lt met.0 i) [
        | inl lt ↦ first.1.meets (before met.0 met.1 lt)
        | inr le ↦ let other : (met.0 ≡ i → ⊥) = ne in first.0 i j (omega (arith, le)) h
      ])
]

pub met_none : (d : Regions) (i : ℕ) (o : Option ℕ) → IsMet d i o → ((j : ℕ) → o ≡ Some j → ⊥) → (j : ℕ) → ¬ MeetsEarlier d i j
met_none d i None met none = met
met_none d i (Some j) met none = absurd (none j refl)

pub met_some : (d : Regions) (i j : ℕ) (o : Option ℕ) → o ≡ Some j → IsMet d i o → IsFirstMetBy d i j
met_some d i j o is met = subst (IsMet d i) is met

-- ---- Which subspaces are not within.

inside : (d : Regions) (limit i p : ℕ) (claims : List Claim) → AreClaims d Within (length d.subs) claims → NoneLeave d limit claims
    → i < limit → ¬ IsOutside d i p
inside d limit i p claims are none lt h =
    let s = h.0 in
    let x = p / 2 ^ 32 in
    let y = p % 2 ^ 32 in
    let is : p ≡ x * 2 ^ 32 + y = sym (div-add-mod' p (2 ^ 32)) in
    let fits : y < 2 ^ 32 = omega arith in
    let a = are.whole i (whole_number d s.part) x y (slice_get_within d.subs i s h.1) fits (
      s,
      h.1,
      refl,
      subst (Contains (space_points d s.space)) is h.2,
    ) in
    let kept : is_kept Within limit a.0.sub ≡ true = lt-ltb a.0.sub limit (omega (arith, a.2, lt)) in
    let whole : whole_at d a.0.sub ≡ points_cut d s.part = ap (whole_at d) a.2 ∙ whole_is d i s h.1 in
    h.3 (subst (Contains (points_cut d s.part)) (sym is)
    (subst (λ ps. Contains ps (x * 2 ^ 32 + y)) whole (none a.0 a.1 kept x y a.3)))

all_inside : (d : Regions) (limit : ℕ) (claims : List Claim) → AreClaims d Within (length d.subs) claims → NoneOutside d limit
    → NoneLeave d limit claims
all_inside d limit claims are none c h kept x y holds = elim (in_or_not (whole_at d c.sub) (x * 2 ^ 32 + y)) [
  | inl has ↦ has
  | inr missed ↦
      let u = (are.sound c h).1 in
      absurd (none c.sub (x * 2 ^ 32 + y) (ltb-true c.sub limit kept) (
        u.0,
        u.1,
        u.3 x y holds,
        λ has. missed (subst (λ ps. Contains ps (x * 2 ^ 32 + y)) (sym (whole_is d c.sub u.0 u.1)) has),
      ))
]

pub outside_told : (d : Regions) (claims : List Claim) (n : ℕ) (o : Option ℕ) → AreClaims d Within (length d.subs) claims
    → n ≡ length d.subs → IsFirstFailing d claims Within n o → IsFirstOutside d o
outside_told d claims n None are is none =
    λ i p h. inside d n i p claims are none (omega (arith, is, slice_get_within d.subs i h.0 h.1)) h
outside_told d claims n (Some i) are is first = (
  λ k p lt. inside d i k p claims are first.1 lt,
  λ none. first.2 (all_inside d (i + 1) claims are (λ k p lt h. elim (cases_eq k i) [
    | inl e ↦ none p (subst (λ j. IsOutside d j p) e h)
    | inr ne ↦ let no : (k ≡ i → ⊥) = ne in inside d i k p claims are first.1 (omega (arith, lt)) h
  ])),
)

-- ---- What both searches tell.

none_in : (d : Regions) (claims : List Claim) (also count : ℕ) (o : Option ℕ) → IsFirstFailing d claims (Apart also) count o
    → ((i : ℕ) → o ≡ Some i → ⊥) → NoneOverlap also count claims
none_in d claims also count None none not_some = none
none_in d claims also count (Some i) first not_some = absurd (not_some i refl)

pub search_none : (d : Regions) (claims : List Claim) (n : ℕ) (o : Option ℕ) → AreClaims d (Apart 0) (length d.subs) claims
    → n ≡ length d.subs → IsFirstFailing d claims (Apart 0) n o → ((i : ℕ) → o ≡ Some i → ⊥) → (i j : ℕ) → ¬ MeetsEarlier d i j
search_none d claims n o are is first not_some =
    none_meets d claims are (subst (λ k. NoneOverlap 0 k claims) is (none_in d claims 0 n o first not_some))

pub search_fails : (d : Regions) (claims : List Claim) (n i : ℕ) (o p : Option ℕ) → AreClaims d (Apart 0) (length d.subs) claims
    → o ≡ Some i → IsFirstFailing d claims (Apart 0) n o → p ≡ None → IsFirstFailing d claims (Apart i) i p → ⊥
search_fails d claims n i o p are is first none second =
    let h : IsFirstFailing d claims (Apart 0) n (Some i) = subst (IsFirstFailing d claims (Apart 0) n) is first in
    some_met d claims i are h.1 h.2 (subst (IsFirstFailing d claims (Apart i) i) none second)

pub search_some : (d : Regions) (claims : List Claim) (n i j : ℕ) (o p : Option ℕ) → AreClaims d (Apart 0) (length d.subs) claims
    → o ≡ Some i → IsFirstFailing d claims (Apart 0) n o → p ≡ Some j → IsFirstFailing d claims (Apart i) i p
    → NoneMeets d i × IsFirstMetBy d i j
search_some d claims n i j o p are is first also second =
    let h : IsFirstFailing d claims (Apart 0) n (Some i) = subst (IsFirstFailing d claims (Apart 0) n) is first in
    first_met d claims i j are h.1 (subst (IsFirstFailing d claims (Apart i) i) also second)
