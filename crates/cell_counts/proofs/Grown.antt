-- Cuts of numbers that are kept in no order.
use Rattle.std.proofs.Common.{◌≡◌, ◌↔◌, ℕ, zero, suc, ◌+◌, ◌-◌, ◌<◌, not, nat_eq, Bool, true, false, List, [], ◌∷◌, ◌++◌, Contains, length, get_or, take, refl, sym, ap, ◌∙◌, subst, inl, inr, arith}
use Rattle.std.specs.Bool.{MatchBool}
use Rattle.std.specs.List.{IsDistinct, flat_map, list_any}
use Rattle.std.specs.List.Sorted.{IsPermutation}
use Rattle.std.proofs.lemmas.Bool.{cases_Bool, eqb-true, ne_eqb, not-false}
use Rattle.std.proofs.lemmas.Cmp.{nat_eq_equiv}
use Rattle.std.proofs.lemmas.Grind.{flat_map-append}
use Rattle.std.proofs.lemmas.List.{flat_map_more, get_or-take, get_or_default, length-take-le, take_more}
use Rattle.std.proofs.lemmas.List.Elements.{Contains-append_cases, Contains-append_left, Contains-append_right}
use Rattle.std.proofs.lemmas.List.Sorted.{Contains-permutation, IsPermutation-sym}
use Rattle.std.proofs.lemmas.Map.Keys.{IsDistinct-from_apart}
use Rattle.std.proofs.lemmas.Map.Made.{length-from_same_keys}
use Rattle.std.proofs.lemmas.Map.Views.{Contains-from_any, list_any-from_Contains}
use Rattle.point_set.specs.declared.rect.Rect.{Rect}
use Rattle.point_set.specs.Rects.{rect_at}
use Rattle.point_set.proofs.lemmas.Ahead.{spread}
use Rattle.grid.specs.Cuts.{Cuts, cuts, with_cut}
use Rattle.grid.proofs.lemmas.Cutting.{are_cuts, cuts_ascend, cuts_have}

abbrev pub grid_with : List ℕ → List ℕ → Cuts
grid_with xs ys = record { xs = xs; ys = ys }

-- lists of the same numbers have the same cuts
same_cuts : (ns ms : List ℕ) → ((n : ℕ) → Contains ns n ↔ Contains ms n) → cuts ns ≡ cuts ms
same_cuts ns ms same = are_cuts ms (cuts ns) (cuts_ascend ns)
    (λ n. (λ h. (same n).0 ((cuts_have ns n).0 h), λ h. (cuts_have ns n).1 ((same n).1 h)))

only : (n m : ℕ) → Contains (n ∷ []) m → n ≡ m
only n m (zero, lt, at) = at
only n m (suc k, lt, at) = absurd (omega (arith, lt))

other : (ns ms : List ℕ) (n : ℕ) → Contains (ns ++ ms) n → Contains (ms ++ ns) n
other ns ms n h = elim (Contains-append_cases ns ms n h) [
  | inl first ↦ Contains-append_right ms ns n first
  | inr behind ↦ Contains-append_left ms ns n behind
]

-- a number that is there adds no cut
held : (n : ℕ) (ns : List ℕ) → Contains ns n → cuts (n ∷ ns) ≡ cuts ns
held n ns has = same_cuts (n ∷ ns) ns (λ m. (
  λ h. elim (Contains-append_cases (n ∷ []) ns m h) [
    | inl first ↦ subst (Contains ns) (only n m first) has
    | inr behind ↦ behind
  ],
  λ h. Contains-append_right (n ∷ []) ns m h,
))

swapped : (ns ms : List ℕ) → cuts (ns ++ ms) ≡ cuts (ms ++ ns)
swapped ns ms = same_cuts (ns ++ ms) (ms ++ ns) (λ n. (other ns ms n, other ms ns n))

-- what an insertion leaves
put : (n : ℕ) (ns ms : List ℕ) (added : Bool) → added ≡ not (list_any (nat_eq n) ns) → MatchBool added (IsPermutation (n ∷ ns) ms) (ms ≡ ns)
    → cuts ms ≡ with_cut n (cuts ns)
put n ns ms true new perm = same_cuts ms (n ∷ ns)
    (λ m. (Contains-permutation ms (n ∷ ns) m (IsPermutation-sym (n ∷ ns) ms perm), Contains-permutation (n ∷ ns) ms m perm))
put n ns ms false old same =
    let has = Contains-from_any eqb-true n ns (not-false (list_any (nat_eq n) ns) (sym old)) in
    ap cuts same ∙ sym (held n ns has)

pub put_at : (n k : ℕ) (ns ms : List ℕ) (added : Bool) → k ≡ n → added ≡ not (list_any (nat_eq k) ns)
    → MatchBool added (IsPermutation (k ∷ ns) ms) (ms ≡ ns) → cuts ms ≡ with_cut n (cuts ns)
put_at n k ns ms added e new keys = put k ns ms added new keys ∙ ap (λ i. with_cut i (cuts ns)) e

-- ---- One rectangle more.

-- the ends of a rectangle of these
of_rect : (f : Rect → List ℕ) (rects : List Rect) (k n : ℕ) → k < length rects → Contains (f (rect_at rects k)) n
    → Contains (flat_map f rects) n
of_rect f [] k n lt h = absurd (omega (arith, lt))
of_rect f (r ∷ rs) zero n lt h = Contains-append_left (f r) (flat_map f rs) n h
of_rect f (r ∷ rs) (suc k) n lt h = Contains-append_right (f r) (flat_map f rs) n (of_rect f rs k n (omega (arith, lt)) h)

one_more : (f : Rect → List ℕ) (old : List ℕ) (rects : List Rect) (k : ℕ) → k < length rects
    → cuts (f (rect_at rects k) ++ (old ++ flat_map f (take k rects))) ≡ cuts (old ++ flat_map f (take (k + 1) rects))
one_more f old rects k lt =
    let r = rect_at rects k in
    swapped (f r) (old ++ flat_map f (take k rects)) ∙ ap cuts (flat_map_more f old (take k rects) r)
    ∙ ap (λ rs. cuts (old ++ flat_map f rs)) (sym (take_more rects k (record { x0 = 0; x1 = 0; y0 = 0; y1 = 0 }) lt))

-- its ends are added
pub grown : (f : Rect → List ℕ) (a b : ℕ) (old now new : List ℕ) (rects : List Rect) (k : ℕ) → k < length rects
    → f (rect_at rects k) ≡ a ∷ b ∷ [] → cuts now ≡ cuts (old ++ flat_map f (take k rects)) → cuts new ≡ cuts (a ∷ b ∷ now)
    → cuts new ≡ cuts (old ++ flat_map f (take (k + 1) rects))
grown f a b old now new rects k lt is before more =
    more ∙ ap (λ ns. with_cut a (with_cut b ns)) before ∙ ap (λ ns. cuts (ns ++ (old ++ flat_map f (take k rects)))) (sym is)
    ∙ one_more f old rects k lt

-- they are those of the rectangle before
pub stays : (f : Rect → List ℕ) (a b : ℕ) (old now : List ℕ) (rects : List Rect) (k : ℕ) → 0 < k → k < length rects
    → f (rect_at rects k) ≡ a ∷ b ∷ [] → f (rect_at rects (k - 1)) ≡ a ∷ b ∷ [] → cuts now ≡ cuts (old ++ flat_map f (take k rects))
    → cuts now ≡ cuts (old ++ flat_map f (take (k + 1) rects))
stays f a b old now rects k some lt is same before =
    let ends = flat_map f (take k rects) in
    let none : Rect = record { x0 = 0; x1 = 0; y0 = 0; y1 = 0 } in
    let there : f (rect_at (take k rects) (k - 1)) ≡ a ∷ b ∷ [] = ap f (get_or-take k rects (k - 1) none (omega (arith, some))) ∙ same in
    let within : k - 1 < length (take k rects) = omega (arith, some, length-take-le k rects (omega (arith, lt))) in
    let has : (n : ℕ) → Contains (a ∷ b ∷ []) n → Contains (old ++ ends) n =
    λ n h. Contains-append_right old ends n (of_rect f (take k rects) (k - 1) n within (subst (λ ns. Contains ns n) (sym there) h)) in
    before ∙ sym (held b (old ++ ends) (has b (1, omega arith, refl)))
    ∙ sym (held a (b ∷ (old ++ ends)) (Contains-append_right (b ∷ []) (old ++ ends) a (has a (0, omega arith, refl))))
    ∙ ap (λ ns. cuts (ns ++ (old ++ ends))) (sym is) ∙ one_more f old rects k lt

-- ---- All of them.

behind_all : (ns ms ends : List ℕ) → cuts ns ≡ cuts ms → cuts (ends ++ ns) ≡ cuts (ends ++ ms)
behind_all ns ms [] same = same
behind_all ns ms (n ∷ ends) same = ap (with_cut n) (behind_all ns ms ends same)

pub all_grown : (f : Rect → List ℕ) (old new : List ℕ) (before rects : List Rect) → cuts old ≡ cuts (flat_map f before)
    → cuts new ≡ cuts (old ++ flat_map f rects) → cuts new ≡ cuts (flat_map f (before ++ rects))
all_grown f old new before rects is more =
    let ends = flat_map f rects in
    more ∙ swapped old ends ∙ behind_all old (flat_map f before) ends is ∙ swapped ends (flat_map f before)
    ∙ ap cuts (sym (flat_map-append f before rects))

pub same_grid : (xs ys zs vs : List ℕ) → xs ≡ zs → ys ≡ vs → grid_with xs ys ≡ grid_with zs vs
same_grid xs ys zs vs same_xs same_ys = ap (λ ns. grid_with ns ys) same_xs ∙ ap (grid_with zs) same_ys

-- ---- How many there are.

cuts_apart : (ns : List ℕ) → IsDistinct nat_eq (cuts ns)
cuts_apart ns = IsDistinct-from_apart nat_eq (cuts ns)
    (λ i j d lt within. ne_eqb (get_or (cuts ns) i d) (get_or (cuts ns) j d) (λ e. omega (
      arith,
      e,
      lt,
      get_or_default (cuts ns) i d 0 (omega (arith, lt, within)),
      get_or_default (cuts ns) j d 0 within,
      spread (cuts ns) i j (cuts_ascend ns) (omega (arith, lt)) within,
    )))

cuts_any : (ns : List ℕ) (n : ℕ) → list_any (nat_eq n) ns ≡ list_any (nat_eq n) (cuts ns)
cuts_any ns n = elim (cases_Bool (list_any (nat_eq n) (cuts ns))) [
  | inl has_cut ↦
      let has = (cuts_have ns n).0 (Contains-from_any eqb-true n (cuts ns) has_cut) in
      list_any-from_Contains nat_eq_equiv n ns has ∙ sym has_cut
  | inr no_cut ↦ elim (cases_Bool (list_any (nat_eq n) ns)) [
    | inl also ↦
        let has = (cuts_have ns n).1 (Contains-from_any eqb-true n ns also) in
        also ∙ sym (list_any-from_Contains nat_eq_equiv n (cuts ns) has)
    | inr neither ↦ neither ∙ sym no_cut
  ]
]

-- numbers that differ are as many as their cuts
pub as_many : (ns : List ℕ) → IsDistinct nat_eq ns → length ns ≡ length (cuts ns)
as_many ns apart = length-from_same_keys nat_eq_equiv ns (cuts ns) apart (cuts_apart ns) (cuts_any ns)
