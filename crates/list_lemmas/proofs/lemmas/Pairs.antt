-- A relation that is the same both ways, between any two elements of a list.
use Rattle.std.proofs.Common.{◌≡◌, ◌≢◌, ℕ, suc, ◌+◌, ◌-◌, ◌<◌, ◌⊎◌, List, [], ◌∷◌, ◌++◌, map, flat_map, filter, Bool, AllPairs, Contains, length, get_or, set, inl, inr, refl, sym, subst, ap, ◌∙◌, arith}
use Rattle.std.specs.List.{swap}
use Rattle.std.specs.List.Sorted.{IsPermutation, SwapsInRange, apply_swaps}
use Rattle.std.proofs.lemmas.Bool.{cases_eq, cases_lt}
use Rattle.std.proofs.lemmas.Grind.{get_or-set_at}
use Rattle.std.proofs.lemmas.List.{get_or-set_other, length-set, length-append, get_or_append_left, get_or-append-add, get_or-append_right}
use Rattle.std.proofs.lemmas.List.Elements.{Contains-get_or, Contains-append_right}
use Rattle.std.proofs.lemmas.List.Edits.{length-swap, swap_is}
use Rattle.std.proofs.lemmas.List.Kept.{AllPairs-cons, AllPairs-filter}
use Rattle.list_lemmas.proofs.lemmas.Contained.{Contains-nil, Contains-here, Contains-later, Contains-cases, only, member_flat, member_map}

-- the relation is the same both ways
abbrev pub IsEven : {X : Type 0} → (X → X → Type 0) → Type 0
IsEven {X} R = (x y : X) → R x y → R y x

pub any_two : {X : Type 0} (R : X → X → Type 0) (xs : List X) (i j : ℕ) (d : X) → IsEven R → AllPairs R xs → i ≢ j → i < length xs
    → j < length xs → R (get_or xs i d) (get_or xs j d)
any_two R xs i j d even all ne a b = elim (cases_lt i j) [
  | inl lt ↦ all i j d lt b
  | inr le ↦ even (get_or xs j d) (get_or xs i d) (all j i d (let no : (i ≡ j → ⊥) = ne in omega (arith, le)) a)
]

-- where an element of a list with two exchanged stood before
abbrev IsMoved : ℕ → ℕ → ℕ → ℕ → Type 0
IsMoved i j a e = ((a ≡ j) × (e ≡ i)) ⊎ ((a ≢ j) × (((a ≡ i) × (e ≡ j)) ⊎ ((a ≢ i) × (e ≡ a))))

moved : {X : Type 0} (xs : List X) (i j a : ℕ) (d : X) → i < length xs → j < length xs → a < length xs → (e : ℕ) × (e < length xs)
    × (get_or (swap xs i j) a d ≡ get_or xs e d) × IsMoved i j a e
moved {X} xs i j a d in_i in_j in_a =
    let one : List X = set xs i (get_or xs j d) in
    let is : set one j (get_or xs i d) ≡ swap xs i j = swap_is xs i j d in_i in_j in
    let len : length one ≡ length xs = length-set xs i (get_or xs j d) in
    let see : get_or (swap xs i j) a d ≡ get_or (set one j (get_or xs i d)) a d = ap (λ ys. get_or ys a d) (sym is) in
    elim (cases_eq a j) [
      | inl e ↦ (i, in_i, see ∙ get_or-set_at one j a (get_or xs i d) d e (omega (arith, len, in_j)), inl (e, refl))
      | inr ne ↦
          let past : get_or (set one j (get_or xs i d)) a d ≡ get_or one a d = get_or-set_other one j a (get_or xs i d) d ne in
          elim (cases_eq a i) [
            | inl e ↦ (j, in_j, see ∙ past ∙ get_or-set_at xs i a (get_or xs j d) d e in_i, inr (ne, inl (e, refl)))
            | inr other ↦ (a, in_a, see ∙ past ∙ get_or-set_other xs i a (get_or xs j d) d other, inr (ne, inr (other, refl)))
          ]
    ]

moved_apart : (i j a b e f : ℕ) → a ≢ b → IsMoved i j a e → IsMoved i j b f → e ≢ f
moved_apart i j a b e f ne (inl p) (inl q) same = ne (omega (arith, p.0, q.0))
moved_apart i j a b e f ne (inl p) (inr (q, inl r)) same = q (omega (arith, p.1, r.0, r.1, same))
moved_apart i j a b e f ne (inl p) (inr (q, inr r)) same = r.0 (omega (arith, p.1, r.1, same))
moved_apart i j a b e f ne (inr (p, inl r)) (inl q) same = p (omega (arith, q.1, r.0, r.1, same))
moved_apart i j a b e f ne (inr (p, inr r)) (inl q) same = r.0 (omega (arith, q.1, r.1, same))
moved_apart i j a b e f ne (inr (p, inl r)) (inr (q, inl s)) same = ne (omega (arith, r.0, s.0))
moved_apart i j a b e f ne (inr (p, inl r)) (inr (q, inr s)) same = q (omega (arith, r.1, s.1, same))
moved_apart i j a b e f ne (inr (p, inr r)) (inr (q, inl s)) same = p (omega (arith, r.1, s.1, same))
moved_apart i j a b e f ne (inr (p, inr r)) (inr (q, inr s)) same = ne (omega (arith, r.1, s.1, same))

AllPairs-swap : {X : Type 0} (R : X → X → Type 0) (xs : List X) (i j : ℕ) → IsEven R → i < length xs → j < length xs → AllPairs R xs
    → AllPairs R (swap xs i j)
AllPairs-swap R xs i j even in_i in_j all a b d lt within =
    let in_b : b < length xs = omega (arith, within, length-swap xs i j) in
    let e = moved xs i j a d in_i in_j (omega (arith, lt, in_b)) in
    let f = moved xs i j b d in_i in_j in_b in
    let apart : e.0 ≢ f.0 = moved_apart i j a b e.0 f.0 (λ same. omega (arith, lt, same)) e.3 f.3 in
    rw (e.2, f.2) (any_two R xs e.0 f.0 d even all apart e.1 f.1)

length-swaps : {X : Type 0} (xs : List X) (ps : List (ℕ × ℕ)) → length (apply_swaps xs ps) ≡ length xs
length-swaps xs [] = refl
length-swaps xs (p ∷ ps) = length-swap (apply_swaps xs ps) p.0 p.1 ∙ length-swaps xs ps

AllPairs-swaps : {X : Type 0} (R : X → X → Type 0) (xs : List X) (ps : List (ℕ × ℕ)) → IsEven R → SwapsInRange (length xs) ps
    → AllPairs R xs → AllPairs R (apply_swaps xs ps)
AllPairs-swaps R xs [] even below all = all
AllPairs-swaps R xs (p ∷ ps) even below all =
    AllPairs-swap R (apply_swaps xs ps) p.0 p.1 even (omega (arith, below.0, length-swaps xs ps))
    (omega (arith, below.1, length-swaps xs ps)) (AllPairs-swaps R xs ps even below.2 all)

-- in another order
pub AllPairs-permutation : {X : Type 0} (R : X → X → Type 0) (xs ys : List X) → IsEven R → IsPermutation xs ys → AllPairs R xs
    → AllPairs R ys
AllPairs-permutation R xs ys even perm all = subst (AllPairs R) (sym perm.is) (AllPairs-swaps R xs perm.moves even perm.below all)

-- in both parts of a list
pub AllPairs-left : {X : Type 0} (R : X → X → Type 0) (xs ys : List X) → AllPairs R (xs ++ ys) → AllPairs R xs
AllPairs-left R xs ys all i j d lt within =
    let h = all i j d lt (omega (arith, within, length-append xs ys)) in
    rw (get_or_append_left xs ys d i (omega (arith, lt, within)), get_or_append_left xs ys d j within) at h

pub AllPairs-right : {X : Type 0} (R : X → X → Type 0) (xs ys : List X) → AllPairs R (xs ++ ys) → AllPairs R ys
AllPairs-right R xs ys all i j d lt within =
    let h = all (length xs + i) (length xs + j) d (omega (arith, lt)) (omega (arith, within, length-append xs ys)) in
    rw (get_or-append-add xs ys i d, get_or-append-add xs ys j d) at h

pub AllPairs-append : {X : Type 0} (R : X → X → Type 0) (xs ys : List X) → AllPairs R xs → AllPairs R ys
    → ((x y : X) → Contains xs x → Contains ys y → R x y) → AllPairs R (xs ++ ys)
AllPairs-append R xs ys left right both i j d lt within = elim (cases_lt j (length xs)) [
  | inl low ↦ rw (get_or_append_left xs ys d i (omega (arith, lt, low)), get_or_append_left xs ys d j low) (left i j d lt low)
  | inr high ↦
      let at_j : get_or (xs ++ ys) j d ≡ get_or ys (j - length xs) d = get_or-append_right xs ys (length xs) j d refl high in
      let in_j : j - length xs < length ys = omega (arith, within, length-append xs ys, high) in
      elim (cases_lt i (length xs)) [
        | inl low ↦ rw (get_or_append_left xs ys d i low, at_j)
            (both (get_or xs i d) (get_or ys (j - length xs) d) (Contains-get_or xs i d low) (Contains-get_or ys (j - length xs) d in_j))
        | inr also ↦ rw (get_or-append_right xs ys (length xs) i d refl also, at_j)
            (right (i - length xs) (j - length xs) d (omega (arith, lt, also)) in_j)
      ]
]

-- ---- a relation of each element to each later one, element by element

pub AllPairs-nil : {X : Type 0} (R : X → X → Type 0) → AllPairs R []
AllPairs-nil R i j d lt within = absurd (omega (arith, within))

pub AllPairs-first : {X : Type 0} (R : X → X → Type 0) (x : X) (xs : List X) → AllPairs R (x ∷ xs) → (y : X) → Contains xs y → R x y
AllPairs-first R x xs h y m = subst (R x) m.2 (h 0 (suc m.0) y (omega arith) (omega (arith, m.1)))

pub AllPairs-rest : {X : Type 0} (R : X → X → Type 0) (x : X) (xs : List X) → AllPairs R (x ∷ xs) → AllPairs R xs
AllPairs-rest R x xs h i j d lt within = h (suc i) (suc j) d (omega (arith, lt)) (omega (arith, within))

pub AllPairs-put : {X : Type 0} (R : X → X → Type 0) (x : X) (xs : List X) → ((y : X) → Contains xs y → R x y) → AllPairs R xs
    → AllPairs R (x ∷ xs)
AllPairs-put R x xs first rest = AllPairs-cons R x xs (λ k d lt. first (get_or xs k d) (Contains-get_or xs k d lt)) rest

pub AllPairs-where : {X : Type 0} (R : X → X → Type 0) (xs : List X) → ((x y : X) → Contains xs x → Contains xs y → R x y) → AllPairs R xs
AllPairs-where R xs h i j d lt within =
    h (get_or xs i d) (get_or xs j d) (Contains-get_or xs i d (omega (arith, lt, within))) (Contains-get_or xs j d within)

pub AllPairs-so : {X : Type 0} (R S : X → X → Type 0) (xs : List X) → ((x y : X) → Contains xs x → Contains xs y → R x y → S x y)
    → AllPairs R xs → AllPairs S xs
AllPairs-so R S xs so h i j d lt within = so (get_or xs i d) (get_or xs j d) (Contains-get_or xs i d (omega (arith, lt, within)))
    (Contains-get_or xs j d within) (h i j d lt within)

pub AllPairs-map : {X Y : Type 0} (R : Y → Y → Type 0) (f : X → Y) (xs : List X) → AllPairs (λ x y. R (f x) (f y)) xs
    → AllPairs R (map f xs)
AllPairs-map R f [] h = AllPairs-nil R
AllPairs-map R f (x ∷ xs) h = AllPairs-put R (f x) (map f xs)
    (λ y m. let r = member_map f xs y m in subst (R (f x)) (sym r.2) (AllPairs-first (λ x y. R (f x) (f y)) x xs h r.0 r.1))
    (AllPairs-map R f xs (AllPairs-rest (λ x y. R (f x) (f y)) x xs h))

pub AllPairs-push : {X : Type 0} (R : X → X → Type 0) (xs : List X) (y : X) → AllPairs R xs → ((x : X) → Contains xs x → R x y)
    → AllPairs R (xs ++ y ∷ [])
AllPairs-push R xs y h new = AllPairs-append R xs (y ∷ []) h (AllPairs-put R y [] (λ z m. absurd (Contains-nil m)) (AllPairs-nil R))
    (λ x z m n. subst (R x) (sym (only n)) (new x m))

-- Two elements are one, or one of them is the earlier.
pub AllPairs-cases : {X : Type 0} (R : X → X → Type 0) (xs : List X) → AllPairs R xs → (x y : X) → Contains xs x → Contains xs y → (x ≡ y)
    ⊎ (R x y ⊎ R y x)
AllPairs-cases R [] h x y m n = absurd (Contains-nil m)
AllPairs-cases R (z ∷ xs) h x y m n = elim (Contains-cases xs m) [
  | inl a ↦ elim (Contains-cases xs n) [
    | inl b ↦ inl (a ∙ sym b)
    | inr n' ↦ inr (inl (subst (λ z. R z y) (sym a) (AllPairs-first R z xs h y n')))
  ]
  | inr m' ↦ elim (Contains-cases xs n) [
    | inl b ↦ inr (inr (subst (λ z. R z x) (sym b) (AllPairs-first R z xs h x m')))
    | inr n' ↦ AllPairs-cases R xs (AllPairs-rest R z xs h) x y m' n'
  ]
]

pub AllPairs-flat : {X Y : Type 0} (R : Y → Y → Type 0) (f : X → List Y) (xs : List X) → ((x : X) → Contains xs x → AllPairs R (f x))
    → AllPairs (λ x y. (a b : Y) → Contains (f x) a → Contains (f y) b → R a b) xs → AllPairs R (flat_map f xs)
AllPairs-flat R f [] each h = AllPairs-nil R
AllPairs-flat {X} {Y} R f (x ∷ xs) each h =
    let S : X → X → Type 0 = λ x y. (a b : Y) → Contains (f x) a → Contains (f y) b → R a b in
    AllPairs-append R (f x) (flat_map f xs) (each x (Contains-here xs))
    (AllPairs-flat R f xs (λ y m. each y (Contains-later xs m)) (AllPairs-rest S x xs h))
    (λ a b m n. let r = member_flat f xs b n in AllPairs-first S x xs h r.0 r.1 a b m r.2)

-- Both parts of a list, and what is between them.
pub AllPairs-parts : {X : Type 0} (R : X → X → Type 0) (xs ys : List X) → AllPairs R (xs ++ ys) → AllPairs R xs × AllPairs R ys
    × ((x y : X) → Contains xs x → Contains ys y → R x y)
AllPairs-parts R [] ys h = (AllPairs-nil R, h, λ x y m n. absurd (Contains-nil m))
AllPairs-parts R (x ∷ xs) ys h =
    let r = AllPairs-parts R xs ys (AllPairs-rest R x (xs ++ ys) h) in (
      AllPairs-left R (x ∷ xs) ys h,
      r.1,
      λ z y m n. elim (Contains-cases xs m) [
        | inl e ↦ rw e (AllPairs-first R x (xs ++ ys) h y (Contains-append_right xs ys y n))
        | inr later ↦ r.2 z y later n
      ],
    )

-- ---- lists in which nothing stands twice

abbrev pub Apart : {X : Type 0} → List X → Type 0
Apart xs = AllPairs (λ x y. x ≢ y) xs

pub apart_none : {X : Type 0} → Apart {X = X} []
apart_none {X} = AllPairs-nil {X = X} (λ x y. x ≢ y)

pub apart_put : {X : Type 0} (x : X) (xs : List X) → ((y : X) → Contains xs y → x ≢ y) → Apart xs → Apart (x ∷ xs)
apart_put x xs first rest = AllPairs-put (λ x y. x ≢ y) x xs first rest

pub apart_one : {X : Type 0} (x : X) → Apart (x ∷ [])
apart_one x = apart_put x [] (λ y none. absurd (Contains-nil none)) apart_none

pub apart_map : {X Y : Type 0} (f : X → Y) (xs : List X) → ((x y : X) → f x ≡ f y → x ≡ y) → Apart xs → Apart (map f xs)
apart_map f xs one h = AllPairs-map (λ x y. x ≢ y) f xs (AllPairs-so (λ x y. x ≢ y) (λ x y. f x ≢ f y) xs (λ x y _ _ d e. d (one x y e)) h)

pub apart_filter : {X : Type 0} (p : X → Bool) (xs : List X) → Apart xs → Apart (filter p xs)
apart_filter p xs h = AllPairs-filter (λ x y. x ≢ y) p xs h

-- Lists made of different elements have nothing in common.
pub apart_flat : {X Y : Type 0} (f : X → List Y) (xs : List X) → ((x : X) → Contains xs x → Apart (f x))
    → ((x y : X) (z : Y) → Contains xs x → Contains xs y → Contains (f x) z → Contains (f y) z → x ≡ y)
    → Apart xs → Apart (flat_map f xs)
apart_flat {X} {Y} f xs each one h = AllPairs-flat (λ x y. x ≢ y) f xs each
    (AllPairs-so (λ x y. x ≢ y) (λ x y. (a b : Y) → Contains (f x) a → Contains (f y) b → a ≢ b) xs
    (λ x y m n d a b i j e. d (one x y a m n i (subst (Contains (f y)) (sym e) j))) h)
