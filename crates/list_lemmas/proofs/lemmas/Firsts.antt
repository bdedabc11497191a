-- First places in lists, and options.
use Rattle.std.proofs.Common.{◌≡◌, ℕ, suc, ◌+◌, ◌-◌, ◌≤◌, Bool, true, List, [], ◌∷◌, map, Option, Some, None, All, subst, cond, Bor, refl, sym, ap, ◌∙◌, inl, inr, ◌⊎◌, arith, find, slice_get, Contains}
use Rattle.std.specs.List.{position_from}
use Rattle.std.specs.Option.{option_and_then, option_map, option_copied, option_or}
use Rattle.std.proofs.lemmas.Bool.{cases_Bool}
use Rattle.std.proofs.lemmas.Option.{slice_get-map, slice_get_within, get_or_from_slice_get, none-some, same_Some, slice_get-get_or}

-- what an option is, and what it was before a function
pub cases_option : {X : Type 0} (o : Option X) → (o ≡ None) ⊎ ((x : X) × (o ≡ Some x))
cases_option None = inl refl
cases_option (Some x) = inr (x, refl)

pub map_cases : {X Y : Type 0} (f : X → Y) (o : Option X) (y : Y) → option_map f o ≡ Some y → (x : X) × (o ≡ Some x) × (f x ≡ y)
map_cases f (Some x) y e = (x, refl, same_Some (f x) y e)
map_cases f None y e = absurd (none-some y e)

pub or_none : {X : Type 0} (o : Option X) → option_or o None ≡ o
or_none None = refl
or_none (Some x) = refl

pub or_assoc : {X : Type 0} (o p q : Option X) → option_or (option_or o p) q ≡ option_or o (option_or p q)
or_assoc None p q = refl
or_assoc (Some x) p q = refl

pub or_alike : {X : Type 0} (o p q : Option X) → (o ≡ None → p ≡ q) → option_or o p ≡ option_or o q
or_alike None p q h = h refl
or_alike (Some x) p q h = refl

pub position_from-map : {X K : Type 0} (f : X → K) (p : K → Bool) (k : ℕ) (xs : List X)
    → position_from p k (map f xs) ≡ position_from (λ x. p (f x)) k xs
position_from-map f p k [] = refl
position_from-map f p k (x ∷ xs) = ap (cond (p (f x)) (Some k)) (position_from-map f p (k + 1) xs)

-- the element at the first place is the first element
find_from : {X : Type 0} (p : X → Bool) (k i : ℕ) (xs : List X) → position_from p k xs ≡ Some i → (k ≤ i)
    × (find p xs ≡ slice_get xs (i - k))
find_from p k i [] e = absurd (none-some i e)
find_from p k i (x ∷ xs) e =
    elim (cases_Bool (p x)) [
      | inl hit ↦ let here : k ≡ i = same_Some k i (rw hit at e) in let z : i - k ≡ 0 = omega arith in (omega arith, rw (hit, z) refl)
      | inr miss ↦ let h = find_from p (k + 1) i xs (rw miss at e) in let z : i - k ≡ suc (i - (k + 1)) = omega (arith, h.0) in
          (omega (arith, h.0), rw (miss, z) h.1)
    ]

pub find_place : {X : Type 0} (p : X → Bool) (i : ℕ) (xs : List X) → position_from p 0 xs ≡ Some i → find p xs ≡ slice_get xs i
find_place p i xs e = let z : i - 0 ≡ i = omega arith in rw z at (find_from p 0 i xs e).1

find_none_from : {X : Type 0} (p : X → Bool) (k : ℕ) (xs : List X) → position_from p k xs ≡ None → find p xs ≡ None
find_none_from p k [] e = refl
find_none_from p k (x ∷ xs) e =
    elim (cases_Bool (p x)) [
      | inl hit ↦ absurd (none-some k (sym (rw hit at e)))
      | inr miss ↦
          rw miss (find_none_from p (k + 1) xs (rw miss at e))
    ]

pub find_none : {X : Type 0} (p : X → Bool) (xs : List X) → position_from p 0 xs ≡ None → find p xs ≡ None
find_none p xs e = find_none_from p 0 xs e

pub find_by_place : {X : Type 0} (p : X → Bool) (xs : List X) (o : Option ℕ) → o ≡ position_from p 0 xs
    → option_and_then (slice_get xs) o ≡ find p xs
find_by_place p xs (Some i) e = sym (find_place p i xs (sym e))
find_by_place p xs None e = sym (find_none p xs (sym e))

-- an item through a function
pub seen_at : {X Y : Type 0} (f : X → Y) (xs : List X) (o : Option ℕ)
    → option_map f (option_and_then (slice_get xs) o) ≡ option_and_then (slice_get (map f xs)) o
seen_at f xs (Some i) = sym (slice_get-map f xs i)
seen_at f xs None = refl

pub seen_back : {X Y : Type 0} (f : X → Y) (xs : List X) (i : ℕ) (y : Y) → slice_get (map f xs) i ≡ Some y → (x : X)
    × (slice_get xs i ≡ Some x) × (f x ≡ y)
seen_back f xs i y at = map_cases f (slice_get xs i) y (sym (slice_get-map f xs i) ∙ at)

pub seen_behind : {X Y : Type 0} (f : X → Y) (r : Option (Bor X)) → option_map (λ s. f s.now) r ≡ option_map f (option_copied r)
seen_behind f (Some x) = refl
seen_behind f None = refl

-- the first element that passes is an element, and passes
pub find_some : {X : Type 0} (p : X → Bool) (xs : List X) (x : X) → find p xs ≡ Some x → (i : ℕ) × (slice_get xs i ≡ Some x) × (p x ≡ true)
find_some p [] x e = absurd (none-some x e)
find_some p (y ∷ ys) x e =
    elim (cases_Bool (p y)) [
      | inl hit ↦ let here : y ≡ x = same_Some y x (rw hit at e) in (0, ap (λ z. Some z) here, ap p (sym here) ∙ hit)
      | inr miss ↦ let h = find_some p ys x (rw miss at e) in (suc h.0, h.1, h.2)
    ]

-- what holds of each element holds of the one at a place
pub all_at : {X : Type 0} (P : X → Type 0) (xs : List X) (i : ℕ) (x : X) → All P xs → slice_get xs i ≡ Some x → P x
all_at P xs i x all at = subst P (get_or_from_slice_get xs i x x at) (all i x (slice_get_within xs i x at))

-- an element stands at a place
pub contains_at : {X : Type 0} (xs : List X) (i : ℕ) (x : X) → slice_get xs i ≡ Some x → Contains xs x
contains_at xs i x at = (i, slice_get_within xs i x at, get_or_from_slice_get xs i x x at)

pub at_contains : {X : Type 0} (xs : List X) (x : X) (h : Contains xs x) → slice_get xs h.0 ≡ Some x
at_contains xs x h = slice_get-get_or xs h.0 x h.1 ∙ ap (λ y. Some y) h.2
