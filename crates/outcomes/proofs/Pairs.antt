-- The unordered pair that is shown is one.
use Rattle.std.proofs.Common.{◌≡◌, List, [], ◌∷◌, ◌++◌, sym, subst}
use Rattle.std.specs.List.{AllByRecursion}

-- Of a list there is one first element that fails.
pub first_failing : {X : Type 0} (P : X → Type 0) (front other : List X) (x y : X) (back rest : List X)
    → front ++ x ∷ back ≡ other ++ y ∷ rest → AllByRecursion P front → AllByRecursion P other → (P x → ⊥) → (P y → ⊥) → x ≡ y
first_failing P [] [] x y back rest e held also fails fails_too = cc
first_failing P [] (z ∷ other) x y back rest e held also fails fails_too = let same : x ≡ z = cc in
    absurd (fails (subst P (sym same) also.0))
first_failing P (z ∷ front) [] x y back rest e held also fails fails_too = let same : z ≡ y = cc in absurd (fails_too (subst P same held.0))
first_failing P (z ∷ front) (w ∷ other) x y back rest e held also fails fails_too =
    let tails : front ++ x ∷ back ≡ other ++ y ∷ rest = cc in first_failing P front other x y back rest tails held.1 also.1 fails fails_too

-- What all of a list have, one within it has.
pub held_within : {X : Type 0} (P : X → Type 0) (front : List X) (x : X) (back : List X) → AllByRecursion P (front ++ x ∷ back) → P x
held_within P [] x back held = held.0
held_within P (y ∷ front) x back held = held_within P front x back held.1
