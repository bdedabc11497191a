-- What lists contain, joined, mapped and filtered, and the tests that find it.
use Rattle.std.proofs.Common.{◌≡◌, zero, suc, ◌⊎◌, inl, inr, Bool, true, false, List, [], ◌∷◌, ◌++◌, map, Contains, refl, sym, ap, ◌∙◌, arith, Option, Some, None, subst, flat_map, find, option_map, get_or, All}
use Rattle.std.specs.Option.{option_or}
use Rattle.std.specs.List.{list_any, list_all, filter_map, cons_option}
use Rattle.std.proofs.lemmas.Bool.{true≢false, cases_Bool, cond_both, false_from_ne_true}
use Rattle.std.proofs.lemmas.List.Concat.{flat_map_single}
use Rattle.std.proofs.lemmas.List.Elements.{Contains-append_left, Contains-append_right, Contains-append_cases, Contains-get_or}
use Rattle.std.proofs.lemmas.List.Folds.{Any-from_list_any, list_any-from_Any, find-append}
use Rattle.std.proofs.lemmas.List.Recursion.{and_at}
use Rattle.std.proofs.lemmas.Option.{same_Some}
use Rattle.list_lemmas.proofs.lemmas.Firsts.{cases_option}

-- ---- the first element, and later ones

pub Contains-nil : {X : Type 0} {x : X} → Contains [] x → ⊥
Contains-nil h = omega (arith, h.1)

pub Contains-first : {X : Type 0} {x y : X} (xs : List X) → x ≡ y → Contains (y ∷ xs) x
Contains-first xs e = (0, omega arith, sym e)

pub Contains-here : {X : Type 0} {x : X} (xs : List X) → Contains (x ∷ xs) x
Contains-here xs = (0, omega arith, refl)

pub Contains-later : {X : Type 0} {x y : X} (xs : List X) → Contains xs x → Contains (y ∷ xs) x
Contains-later xs h = (suc h.0, omega (arith, h.1), h.2)

pub Contains-cases : {X : Type 0} {x y : X} (xs : List X) → Contains (y ∷ xs) x → (x ≡ y) ⊎ Contains xs x
Contains-cases xs (zero, lt, is) = inl (sym is)
Contains-cases xs (suc k, lt, is) = inr (k, omega (arith, lt), is)

pub only : {X : Type 0} {x y : X} → Contains (x ∷ []) y → y ≡ x
only h = elim (Contains-cases [] h) [ inl is ↦ is | inr none ↦ absurd (Contains-nil none) ]

-- ---- options

pub both_none : {A : Type 0} (o p : Option A) → option_or o p ≡ None → (o ≡ None) × (p ≡ None)
both_none None p e = (refl, e)
both_none (Some a) p e = absurd cc

pub unmapped_none : {A B : Type 0} (f : A → B) (o : Option A) → option_map f o ≡ None → o ≡ None
unmapped_none f None e = refl
unmapped_none f (Some a) e = absurd cc

-- ---- joined, mapped and filtered lists

pub each_more : {X : Type 0} (P : X → Type 0) (xs : List X) (y : X) → ((x : X) → Contains xs x → P x) → P y
    → (x : X) → Contains (xs ++ y ∷ []) x → P x
each_more P xs y h new x m = elim (Contains-append_cases xs (y ∷ []) x m) [ inl old ↦ h x old | inr last ↦ subst P (sym (only last)) new ]

pub member_flat : {X Y : Type 0} (f : X → List Y) (xs : List X) (y : Y) → Contains (flat_map f xs) y → (x : X) × Contains xs x × Contains (f x) y
member_flat f [] y m = absurd (Contains-nil m)
member_flat f (x ∷ xs) y m = elim (Contains-append_cases (f x) (flat_map f xs) y m) [
  | inl l ↦ (x, Contains-here xs, l)
  | inr r ↦ let rest = member_flat f xs y r in (rest.0, Contains-later xs rest.1, rest.2)
]

pub flat_member : {X Y : Type 0} (f : X → List Y) (xs : List X) (x : X) (y : Y) → Contains xs x → Contains (f x) y → Contains (flat_map f xs) y
flat_member f [] x y m n = absurd (Contains-nil m)
flat_member f (z ∷ xs) x y m n = elim (Contains-cases xs m) [
  | inl e ↦ Contains-append_left (f z) (flat_map f xs) y (subst (λ w. Contains (f w) y) e n)
  | inr later ↦ Contains-append_right (f z) (flat_map f xs) y (flat_member f xs x y later n)
]

pub member_map : {X Y : Type 0} (f : X → Y) (xs : List X) (y : Y) → Contains (map f xs) y → (x : X) × Contains xs x × (y ≡ f x)
member_map f xs y m = let r = member_flat (λ x. f x ∷ []) xs y (subst (λ ys. Contains ys y) (sym (flat_map_single f xs)) m) in
    (r.0, r.1, only r.2)

pub map_member : {X Y : Type 0} (f : X → Y) (xs : List X) (x : X) → Contains xs x → Contains (map f xs) (f x)
map_member f xs x m = subst (λ ys. Contains ys (f x)) (flat_map_single f xs) (flat_member (λ x. f x ∷ []) xs x (f x) m (Contains-here []))

cons_cases : {Y : Type 0} {y : Y} (o : Option Y) (ys : List Y) → Contains (cons_option o ys) y → (o ≡ Some y) ⊎ Contains ys y
cons_cases None ys m = inr m
cons_cases (Some z) ys m = elim (Contains-cases ys m) [ inl is ↦ inl (ap (λ y. Some y) (sym is)) | inr later ↦ inr later ]

pub member_filter_map : {X Y : Type 0} (f : X → Option Y) (xs : List X) (y : Y) → Contains (filter_map f xs) y → (x : X) × Contains xs x
    × (f x ≡ Some y)
member_filter_map f [] y m = absurd (Contains-nil m)
member_filter_map f (x ∷ xs) y m = elim (cons_cases (f x) (filter_map f xs) m) [
  | inl is ↦ (x, Contains-here xs, is)
  | inr later ↦ let r = member_filter_map f xs y later in (r.0, Contains-later xs r.1, r.2)
]

pub filter_map_member : {X Y : Type 0} (f : X → Option Y) (xs : List X) (x : X) (y : Y) → Contains xs x → f x ≡ Some y
    → Contains (filter_map f xs) y
filter_map_member f [] x y m e = absurd (Contains-nil m)
filter_map_member f (z ∷ xs) x y m e = elim (Contains-cases xs m) [
  | inl is ↦ rw (ap f (sym is) ∙ e) (Contains-here (filter_map f xs))
  | inr later ↦
      elim (cases_option (f z)) [
        | inl none ↦ rw none (filter_map_member f xs x y later e)
        | inr some ↦ rw some.1 (Contains-later (filter_map f xs) (filter_map_member f xs x y later e))
      ]
]

-- What holds of each element, place by place.
pub all_contained : {X : Type 0} (P : X → Type 0) (xs : List X) → ((x : X) → Contains xs x → P x) → All P xs
all_contained P xs h i d lt = h (get_or xs i d) (Contains-get_or xs i d lt)

-- ---- tests

pub any_at : {X : Type 0} (p : X → Bool) (xs : List X) (x : X) → Contains xs x → p x ≡ true → list_any p xs ≡ true
any_at p xs x m e = list_any-from_Any p xs (m.0, x, m.1, m.2, e)

pub none_at : {X : Type 0} (p : X → Bool) (xs : List X) (x : X) → list_any p xs ≡ false → Contains xs x → p x ≡ false
none_at p xs x e m = false_from_ne_true (p x) (λ is. true≢false (sym (any_at p xs x m is) ∙ e))

pub any_found : {X : Type 0} (p : X → Bool) (xs : List X) → list_any p xs ≡ true → (x : X) × Contains xs x × (p x ≡ true)
any_found p xs e = let a = Any-from_list_any p xs e in (a.1, (a.0, a.2, a.3), a.4)

pub all_at : {X : Type 0} (p : X → Bool) (xs : List X) (x : X) → list_all p xs ≡ true → Contains xs x → p x ≡ true
all_at p xs x e m = ap p (sym m.2) ∙ and_at (list_all p) p refl (λ x xs. refl) xs m.0 x m.1 e

-- What is found is an element that passes the test, and where there is one it is found.
pub found_at : {X : Type 0} (p : X → Bool) (xs : List X) (x : X) → find p xs ≡ Some x → Contains xs x × (p x ≡ true)
found_at p [] x = λ e. absurd cc
found_at p (y ∷ ys) x = cond_both (p y) (Some y) (find p ys) (λ o. o ≡ Some x → Contains (y ∷ ys) x × (p x ≡ true))
    (λ passes e. let is = same_Some y x e in (Contains-first ys (sym is), ap p (sym is) ∙ passes))
    (λ fails e. let r = found_at p ys x e in (Contains-later ys r.0, r.1))

pub find_any : {X : Type 0} (p : X → Bool) (xs : List X) → list_any p xs ≡ true → (x : X) × (find p xs ≡ Some x)
find_any p [] e = absurd cc
find_any p (y ∷ ys) e = elim (cases_Bool (p y)) [ inl passes ↦ (y, rw passes refl) | inr fails ↦ rw fails (find_any p ys (rw fails at e)) ]

-- What is found in a list is found in a longer one.
pub find_still : {X : Type 0} (p : X → Bool) (xs ys : List X) (x : X) → find p xs ≡ Some x → find p (xs ++ ys) ≡ Some x
find_still p xs ys x e = find-append p xs ys ∙ rw e refl

-- Where nothing is found, no element passes the test.
pub none_found : {X : Type 0} (p : X → Bool) (xs : List X) (x : X) → find p xs ≡ None → Contains xs x → p x ≡ false
none_found p xs x e m = false_from_ne_true (p x) (λ is. let bad = sym e ∙ (find_any p xs (any_at p xs x m is)).1 in absurd cc)

pub find_none : {X : Type 0} (p : X → Bool) (xs : List X) → list_any p xs ≡ false → find p xs ≡ None
find_none p [] e = refl
find_none p (y ∷ ys) e =
    elim (cases_Bool (p y)) [
      | inl passes ↦ absurd (true≢false (sym (any_at p (y ∷ ys) y (Contains-here ys) passes) ∙ e))
      | inr fails ↦ rw fails (find_none p ys (rw fails at e))
    ]

-- Tests that are the same at each element find the same.
pub find_same : {X : Type 0} (p q : X → Bool) (xs : List X) → ((x : X) → Contains xs x → p x ≡ q x) → find p xs ≡ find q xs
find_same p q [] h = refl
find_same p q (x ∷ xs) h =
    elim (cases_Bool (q x)) [
      | inl hit ↦ rw (h x (Contains-here xs) ∙ hit, hit) refl
      | inr miss ↦ rw (h x (Contains-here xs) ∙ miss, miss) (find_same p q xs (λ y m. h y (Contains-later xs m)))
    ]
