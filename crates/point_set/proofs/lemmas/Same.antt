-- Ascending lists of the same numbers are one list.
use Rattle.std.proofs.Common.{◌≡◌, ℕ, zero, suc, ◌≤◌, List, [], ◌∷◌, Contains, refl, ap₂, arith}
use Rattle.std.specs.List.Sorted.{IsStrictlyIncreasing}
use Rattle.point_set.proofs.lemmas.Ahead.{at_place, spread}
use Rattle.point_set.proofs.lemmas.Left.{here, behind, tail_up, tail_above, in_tail}

least : (x q : ℕ) (xs : List ℕ) → IsStrictlyIncreasing (x ∷ xs) → Contains (x ∷ xs) q → x ≤ q
least x q xs up h = omega (arith, at_place (x ∷ xs) q h, spread (x ∷ xs) 0 h.0 up (omega arith) h.1)

pub same_members : (xs ys : List ℕ) → IsStrictlyIncreasing xs → IsStrictlyIncreasing ys → ((q : ℕ) → Contains xs q → Contains ys q)
    → ((q : ℕ) → Contains ys q → Contains xs q) → xs ≡ ys
same_members [] [] a b there back = refl
same_members [] (y ∷ ys) a b there back = absurd (let h = back y (here y ys) in omega (arith, h.1))
same_members (x ∷ xs) [] a b there back = absurd (let h = there x (here x xs) in omega (arith, h.1))
same_members (x ∷ xs) (y ∷ ys) a b there back =
    let e : x ≡ y = omega (arith, least x y xs a (back y (here y ys)), least y x ys b (there x (here x xs))) in
    let on : (q : ℕ) → Contains xs q → Contains ys q = λ q h.
    let m = there q (behind x q xs h) in in_tail y q m.0 ys (omega (arith, e, tail_above x q xs a h)) m.1 m.2 in
    let off : (q : ℕ) → Contains ys q → Contains xs q = λ q h.
    let m = back q (behind y q ys h) in in_tail x q m.0 xs (omega (arith, e, tail_above y q ys b h)) m.1 m.2 in
    ap₂ (λ z zs. z ∷ zs) e (same_members xs ys (tail_up x xs a) (tail_up y ys b) on off)
