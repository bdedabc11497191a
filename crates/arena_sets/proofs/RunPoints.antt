-- The points of a run, one by one.
use Rattle.std.proofs.Common.{◌≡◌, ℕ, zero, suc, ◌+◌, ◌-◌, ◌<◌, ◌≤◌, List, [], ◌∷◌, ◌++◌, refl, ap, inl, inr, arith, add-one, add-zero, append_assoc}
use Rattle.std.proofs.lemmas.Bool.{cases_lt}
use Rattle.std.specs.List.{range_with_len}

range_push : (a n : ℕ) → range_with_len a (n + 1) ≡ range_with_len a n ++ (a + n) ∷ []
range_push a zero = rw add-zero refl
range_push a (suc n) = let k : a + 1 + n ≡ a + suc n = omega arith in
    rw (add-one (suc n), ← k) (ap (λ (xs : List ℕ). a ∷ xs) (rw (add-one n) at (range_push (a + 1) n)))

-- one point more
pub one_more : (old before after : List ℕ) (first p n : ℕ) → before ≡ old ++ range_with_len first (p - first) → after ≡ before ++ p ∷ []
    → first ≤ p → n ≡ p + 1 - first → after ≡ old ++ range_with_len first n
one_more old before after first p n so_far next le is =
    let k : n ≡ (p - first) + 1 = omega arith in
    let at : first + (p - first) ≡ p = omega arith in
    rw (k, range_push first (p - first), at, next, so_far) (append_assoc old (range_with_len first (p - first)) (p ∷ []))

-- where the loop ends
pub end_is : (first last p : ℕ) → last < p → first ≤ p → (last < first → p ≡ first) → (first ≤ last → p ≤ last + 1)
    → p - first ≡ last + 1 - first
end_is first last p past from none some = elim (cases_lt last first) [
  | inl lt ↦ let e = none lt in omega arith
  | inr le ↦ let e = some le in
      omega arith
]
