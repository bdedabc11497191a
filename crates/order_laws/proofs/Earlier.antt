-- Which elements of a list stand before which.
use Rattle.std.proofs.Common.{◌≡◌, ◌≢◌, ℕ, suc, ◌+◌, ◌<◌, ◌==◌, inl, inr, true, false, ◌⊎◌, List, [], ◌∷◌, ◌++◌, refl, sym, ◌∙◌, subst, arith, flat_map, map, Contains, AllPairs}
use Rattle.std.specs.List.{position_or_len}
use Rattle.std.proofs.lemmas.Bool.{cases_Bool, eqb-true, eq-eqb, false_from_ne_true}
use Rattle.std.proofs.lemmas.List.Elements.{Contains-append_cases, Contains-append_left, Contains-append_right}
use Rattle.list_lemmas.proofs.lemmas.Pairs.{AllPairs-first, AllPairs-rest}
use Rattle.list_lemmas.proofs.lemmas.Contained.{member_flat, flat_member, member_map, Contains-nil, Contains-first, Contains-later, Contains-cases}
use Rattle.order_laws.proofs.lemmas.SerialPlaces.{behind}

-- Some place of the one is before some place of the other.
abbrev pub Earlier : {X : Type 0} → List X → X → X → Type 0
Earlier [] x y = ⊥
Earlier (z ∷ zs) x y = ((x ≡ z) × Contains zs y) ⊎ Earlier zs x y

module _ {X : Type 0} where
  pub earlier_in : (xs : List X) (x y : X) → Earlier xs x y → Contains xs x × Contains xs y
  earlier_in [] x y e = absurd e
  earlier_in (z ∷ zs) x y (inl h) = (Contains-first zs h.0, Contains-later zs h.1)
  earlier_in (z ∷ zs) x y (inr e) = let r = earlier_in zs x y e in (Contains-later zs r.0, Contains-later zs r.1)

  pub earlier_left : (xs ys : List X) (x y : X) → Earlier xs x y → Earlier (xs ++ ys) x y
  earlier_left [] ys x y e = absurd e
  earlier_left (z ∷ zs) ys x y (inl h) = inl (h.0, Contains-append_left zs ys y h.1)
  earlier_left (z ∷ zs) ys x y (inr e) = inr (earlier_left zs ys x y e)

  pub earlier_right : (xs ys : List X) (x y : X) → Earlier ys x y → Earlier (xs ++ ys) x y
  earlier_right [] ys x y e = e
  earlier_right (z ∷ zs) ys x y e = inr (earlier_right zs ys x y e)

  pub earlier_across : (xs ys : List X) (x y : X) → Contains xs x → Contains ys y → Earlier (xs ++ ys) x y
  earlier_across [] ys x y m n = absurd (Contains-nil m)
  earlier_across (z ∷ zs) ys x y m n = elim (Contains-cases zs m) [
    | inl is ↦ inl (is, Contains-append_right zs ys y n)
    | inr later ↦ inr (earlier_across zs ys x y later n)
  ]

  pub earlier_append : (xs ys : List X) (x y : X) → Earlier (xs ++ ys) x y → Earlier xs x y
      ⊎ ((Contains xs x × Contains ys y) ⊎ Earlier ys x y)
  earlier_append [] ys x y e = inr (inr e)
  earlier_append (z ∷ zs) ys x y (inl h) = elim (Contains-append_cases zs ys y h.1) [
    | inl near ↦ inl (inl (h.0, near))
    | inr far ↦ inr (inl (Contains-first zs h.0, far))
  ]
  earlier_append (z ∷ zs) ys x y (inr e) = elim (earlier_append zs ys x y e) [
    | inl near ↦ inl (inr near)
    | inr (inl across) ↦ inr (inl (Contains-later zs across.0, across.1))
    | inr (inr far) ↦ inr (inr far)
  ]

pub flat_earlier : {X Y : Type 0} (f : X → List Y) (xs : List X) (a b : X) (x y : Y) → Earlier xs a b → Contains (f a) x
    → Contains (f b) y → Earlier (flat_map f xs) x y
flat_earlier f [] a b x y e m n = absurd e
flat_earlier f (z ∷ zs) a b x y (inl h) m n = earlier_across (f z) (flat_map f zs) x y (subst (λ w. Contains (f w) x) h.0 m)
    (flat_member f zs b y h.1 n)
flat_earlier f (z ∷ zs) a b x y (inr e) m n = earlier_right (f z) (flat_map f zs) x y (flat_earlier f zs a b x y e m n)

-- From which parts two elements of a flat list come.
pub record Parts {X Y : Type 0} (f : X → List Y) (xs : List X) (x y : Y) : Type 0 where
  pub a : X
  pub b : X
  pub order : Earlier xs a b ⊎ ((a ≡ b) × Earlier (f a) x y)
  pub in_a : Contains (f a) x
  pub in_b : Contains (f b) y

pub earlier_flat : {X Y : Type 0} (f : X → List Y) (xs : List X) (x y : Y) → Earlier (flat_map f xs) x y → Parts f xs x y
earlier_flat f [] x y e = absurd e
earlier_flat f (z ∷ zs) x y e = elim (earlier_append (f z) (flat_map f zs) x y e) [
  | inl here ↦ let m = earlier_in (f z) x y here in record { a = z; b = z; order = inr (refl, here); in_a = m.0; in_b = m.1 }
  | inr (inl across) ↦ let r = member_flat f zs y across.1 in record {
    a = z;
    b = r.0;
    order = inl (inl (refl, r.1));
    in_a =
        across.0;
    in_b = r.2;
  }
  | inr (inr later) ↦ let r = earlier_flat f zs x y later in record {
    a = r.a;
    b = r.b;
    order = elim r.order [ inl o ↦ inl (inr o) | inr s ↦ inr s ];
    in_a = r.in_a;
    in_b = r.in_b;
  }
]

-- Two elements of a mapped list.
pub earlier_map : {X Y : Type 0} (f : X → Y) (xs : List X) (v w : Y) → Earlier (map f xs) v w → (x : X) × (y : X) × Earlier xs x y
    × (v ≡ f x) × (w ≡ f y)
earlier_map f [] v w e = absurd e
earlier_map f (x ∷ xs) v w (inl h) = let r = member_map f xs w h.1 in (x, r.0, inl (refl, r.1), h.0, r.2)
earlier_map f (x ∷ xs) v w (inr e) = let r = earlier_map f xs v w e in (r.0, r.1, inr r.2, r.3, r.4)

pub pairs_earlier : {X : Type 0} (R : X → X → Type 0) (xs : List X) (x y : X) → AllPairs R xs → Earlier xs x y → R x y
pairs_earlier R [] x y h e = absurd e
pairs_earlier R (z ∷ zs) x y h (inl m) = subst (λ w. R w y) (sym m.0) (AllPairs-first R z zs h y m.1)
pairs_earlier R (z ∷ zs) x y h (inr e) = pairs_earlier R zs x y (AllPairs-rest R z zs h) e

-- ---- places of numbers in a list

abbrev pub place_in : List ℕ → ℕ → ℕ
place_in xs n = position_or_len (λ i. i == n) xs

place_head : (x : ℕ) (xs : List ℕ) (n : ℕ) → (x == n) ≡ true → place_in (x ∷ xs) n ≡ 0
place_head x xs n e = rw e refl

place_next : (x : ℕ) (xs : List ℕ) (n : ℕ) → (x == n) ≡ false → place_in (x ∷ xs) n ≡ suc (place_in xs n)
place_next x xs n e = let h : place_in (x ∷ xs) n ≡ 1 + place_in xs n = rw e refl in omega (arith, h)

pub earlier_of : (xs : List ℕ) (a b : ℕ) → place_in xs a < place_in xs b → Contains xs b → Earlier xs a b
earlier_of [] a b lt m = absurd (Contains-nil m)
earlier_of (x ∷ xs) a b lt m = elim (cases_Bool (x == b)) [
  | inl at_b ↦ let z = place_head x xs b at_b in absurd (omega (arith, lt, z))
  | inr not_b ↦
      let sb = place_next x xs b not_b in
      let later : Contains xs b = behind x xs b not_b m in
      elim (cases_Bool (x == a)) [
        | inl at_a ↦ inl (sym (eqb-true x a at_a), later)
        | inr not_a ↦ let sa = place_next x xs a not_a in inr (earlier_of xs a b (omega (arith, lt, sa, sb)) later)
      ]
]

pub place_order : (xs : List ℕ) (a b : ℕ) → AllPairs (λ x y. x ≢ y) xs → Earlier xs a b → place_in xs a < place_in xs b
place_order [] a b apart e = absurd e
place_order (x ∷ xs) a b apart (inl h) =
    let at : (x == a) ≡ true = eq-eqb x a (sym h.0) in
    let other : (x == b) ≡ false = false_from_ne_true (x == b) (λ e. AllPairs-first (λ x y. x ≢ y) x xs apart b h.1 (eqb-true x b e)) in
    let za = place_head x xs a at in
    let sb = place_next x xs b other in
    omega (arith, za, sb)
place_order (x ∷ xs) a b apart (inr e) =
    let m = earlier_in xs a b e in
    let not_a : (x == a) ≡ false = false_from_ne_true (x == a) (λ e. AllPairs-first (λ x y. x ≢ y) x xs apart a m.0 (eqb-true x a e)) in
    let not_b : (x == b) ≡ false = false_from_ne_true (x == b) (λ e. AllPairs-first (λ x y. x ≢ y) x xs apart b m.1 (eqb-true x b e)) in
    let sa = place_next x xs a not_a in
    let sb = place_next x xs b not_b in
    let r = place_order xs a b (AllPairs-rest (λ x y. x ≢ y) x xs apart) e in
    omega (arith, sa, sb, r)

-- Two members at one place are one.
pub place_same : (xs : List ℕ) (a b : ℕ) → Contains xs a → Contains xs b → place_in xs a ≡ place_in xs b → a ≡ b
place_same [] a b m n e = absurd (Contains-nil m)
place_same (x ∷ xs) a b m n e = elim (cases_Bool (x == a)) [
  | inl at_a ↦ elim (cases_Bool (x == b)) [
    | inl at_b ↦ sym (eqb-true x a at_a) ∙ eqb-true x b at_b
    | inr not_b ↦ let za = place_head x xs a at_a in let sb = place_next x xs b not_b in absurd (omega (arith, e, za, sb))
  ]
  | inr not_a ↦ elim (cases_Bool (x == b)) [
    | inl at_b ↦ let sa = place_next x xs a not_a in let zb = place_head x xs b at_b in absurd (omega (arith, e, sa, zb))
    | inr not_b ↦
        let sa = place_next x xs a not_a in
        let sb = place_next x xs b not_b in
        place_same xs a b (behind x xs a not_a m) (behind x xs b not_b n) (omega (arith, e, sa, sb))
  ]
]
