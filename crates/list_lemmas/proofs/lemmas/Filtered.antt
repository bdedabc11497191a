-- What a filter keeps.
use Rattle.std.proofs.Common.{◌≡◌, zero, suc, Bool, true, List, [], ◌∷◌, Contains, filter, subst, sym, inl, inr, arith}
use Rattle.std.proofs.lemmas.Bool.{cases_Bool}

here : {X : Type 0} (x y : X) (xs : List X) → y ≡ x → Contains (y ∷ xs) x
here x y xs e = (0, omega arith, e)

behind : {X : Type 0} (x y : X) (xs : List X) → Contains xs x → Contains (y ∷ xs) x
behind x y xs h = (suc h.0, omega (arith, h.1), h.2)

pub in_filter : {X : Type 0} (p : X → Bool) (xs : List X) (x : X) → Contains xs x → p x ≡ true → Contains (filter p xs) x
in_filter p [] x h so = absurd (omega (arith, h.1))
in_filter p (y ∷ xs) x (zero, lt, at) so =
    let so' : p y ≡ true = subst (λ z. p z ≡ true) (sym at) so in
    rw so' (here x y (filter p xs) at)
in_filter p (y ∷ xs) x (suc k, lt, at) so =
    let more = in_filter p xs x (k, omega (arith, lt), at) so in
    elim (cases_Bool (p y)) [ inl kept ↦ rw kept (behind x y (filter p xs) more) | inr not_kept ↦ rw not_kept more ]

first : {X : Type 0} (p : X → Bool) (y : X) (xs ys : List X) (x : X) → (Contains ys x → Contains xs x × (p x ≡ true)) → p y ≡ true
    → Contains (y ∷ ys) x → Contains (y ∷ xs) x × (p x ≡ true)
first p y xs ys x rest kept (zero, lt, at) = (here x y xs at, subst (λ z. p z ≡ true) at kept)
first p y xs ys x rest kept (suc k, lt, at) = let more = rest (k, omega (arith, lt), at) in (behind x y xs more.0, more.1)

pub of_filter : {X : Type 0} (p : X → Bool) (xs : List X) (x : X) → Contains (filter p xs) x → Contains xs x × (p x ≡ true)
of_filter p [] x h = absurd (omega (arith, h.1))
of_filter p (y ∷ xs) x h = elim (cases_Bool (p y)) [
  | inl kept ↦ first p y xs (filter p xs) x (of_filter p xs x) kept (rw kept at h)
  | inr not_kept ↦ let more = of_filter p xs x (rw not_kept at h) in (behind x y xs more.0, more.1)
]
