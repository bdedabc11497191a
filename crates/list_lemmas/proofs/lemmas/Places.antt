-- Places of rows, and the rows at them.
use Rattle.std.proofs.Common.{◌≡◌, ℕ, suc, ◌+◌, Bool, ◌&&◌, ◌||◌, List, [], ◌∷◌, ◌++◌, map, Option, Some, None, is_some, length, cond, refl, sym, ap, filter, inl, inr, arith, find, All, subst, Bor, IfSome, zero, ◌<◌, slice_get}
use Rattle.std.specs.List.{list_any, position_from}
use Rattle.std.specs.Option.{option_or, option_map, option_copied}
use Rattle.std.proofs.lemmas.Bool.{cases_Bool}
use Rattle.std.proofs.lemmas.Option.{none-some, same_Some, slice_get_within}
use Rattle.std.proofs.lemmas.List.Elements.{All-head, All-tail}

-- one row more
pub position_more : {X : Type 0} (p : X → Bool) (k : ℕ) (xs : List X) (x : X)
    → position_from p k (xs ++ x ∷ []) ≡ option_or (position_from p k xs) (cond (p x) (Some (k + length xs)) None)
position_more p k [] x = let z : k + 0 ≡ k = omega arith in rw z refl
position_more p k (y ∷ ys) x =
    elim (cases_Bool (p y)) [
      | inl hit ↦ rw hit refl
      | inr miss ↦ let z : k + 1 + length ys ≡ k + suc (length ys) = omega arith in rw (miss, position_more p (k + 1) ys x, z) refl
    ]

pub is_some-position : {X : Type 0} (p : X → Bool) (k : ℕ) (xs : List X) → is_some (position_from p k xs) ≡ list_any p xs
is_some-position p k [] = refl
is_some-position p k (x ∷ xs) =
    elim (cases_Bool (p x)) [ inl hit ↦ rw hit refl | inr miss ↦ rw miss (is_some-position p (k + 1) xs) ]

-- look-ups through a view
pub find_map : {X Y : Type 0} (p : Y → Bool) (f : X → Y) (xs : List X) → find p (map f xs) ≡ option_map f (find (λ x. p (f x)) xs)
find_map p f [] = refl
find_map p f (x ∷ xs) = elim (cases_Bool (p (f x))) [ inl hit ↦ rw hit refl | inr miss ↦ rw miss (find_map p f xs) ]

pub list_any_map : {X Y : Type 0} (p : Y → Bool) (f : X → Y) (xs : List X) → list_any p (map f xs) ≡ list_any (λ x. p (f x)) xs
list_any_map p f [] = refl
list_any_map p f (x ∷ xs) = ap (λ b. p (f x) || b) (list_any_map p f xs)

-- what all rows keep, the row that is found keeps
pub all_found : {X : Type 0} (P : X → Type 0) (p : X → Bool) (xs : List X) (x : X) → All P xs → find p xs ≡ Some x → P x
all_found P p [] x all e = absurd (none-some x e)
all_found P p (y ∷ ys) x all e =
    elim (cases_Bool (p y)) [
      | inl hit ↦ subst P (same_Some y x (rw hit at e)) (All-head P y ys all)
      | inr miss ↦ all_found P p ys x (All-tail P y ys all) (rw miss at e)
    ]

pub all_found_behind : {X : Type 0} (P : X → Type 0) (p : X → Bool) (xs : List X) (o : Option (Bor X)) → All P xs
    → option_copied o ≡ find p xs → IfSome o (λ r. P r.now)
all_found_behind P p xs None all e = tt
all_found_behind P p xs (Some r) all e = all_found P p xs r.now all (sym e)

pub find_filter : {X : Type 0} (s p : X → Bool) (xs : List X) → find p (filter s xs) ≡ find (λ x. s x && p x) xs
find_filter s p [] = refl
find_filter s p (x ∷ xs) =
    elim (cases_Bool (s x)) [
      | inl kept ↦ rw kept (ap (λ o. cond (p x) (Some x) o) (find_filter s p xs))
      | inr left ↦ rw left (find_filter s p xs)
    ]

-- An element that stands at a place of a list stands there in a longer one.
pub still_at : {X : Type 0} (xs ys : List X) (k : ℕ) (x : X) → slice_get xs k ≡ Some x → slice_get (xs ++ ys) k ≡ Some x
still_at [] ys k x e = let none : k < 0 = slice_get_within [] k x e in absurd (omega (arith, none))
still_at (y ∷ xs) ys zero x e = e
still_at (y ∷ xs) ys (suc k) x e = still_at xs ys k x e
