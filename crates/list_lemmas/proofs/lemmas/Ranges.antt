-- The numbers from one on, in order.
use Rattle.std.proofs.Common.{◌≡◌, ◌≢◌, ℕ, zero, suc, ◌+◌, ◌<◌, ◌≤◌, List, [], ◌∷◌, ◌++◌, AllPairs, Contains, inl, inr, sym, ap, ◌∙◌, arith}
use Rattle.std.specs.List.{range_with_len}
use Rattle.std.proofs.lemmas.Bool.{cases_eq}
use Rattle.list_lemmas.proofs.lemmas.Contained.{Contains-nil, Contains-first, Contains-later, Contains-cases}
use Rattle.list_lemmas.proofs.lemmas.Pairs.{AllPairs-nil, AllPairs-put, AllPairs-so, Apart}

pub number_between : (first n k : ℕ) → Contains (range_with_len first n) k → (first ≤ k) × (k < first + n)
number_between first zero k m = absurd (Contains-nil m)
number_between first (suc n) k m = elim (Contains-cases (range_with_len (first + 1) n) m) [
  | inl e ↦ (omega (arith, e), omega (arith, e))
  | inr later ↦ let r = number_between (first + 1) n k later in (omega (arith, r.0), omega (arith, r.1))
]

pub number_within : (n k : ℕ) → Contains (range_with_len 0 n) k → k < n
number_within n k m = omega (arith, (number_between 0 n k m).1)

pub number_from : (first n k : ℕ) → first ≤ k → k < first + n → Contains (range_with_len first n) k
number_from first zero k low high = absurd (omega (arith, low, high))
number_from first (suc n) k low high =
    elim (cases_eq first k) [
      | inl e ↦ Contains-first (range_with_len (first + 1) n) (sym e)
      | inr ne ↦ Contains-later (range_with_len (first + 1) n) (number_from (first + 1) n k (omega (arith, low, ne)) (omega (arith, high)))
    ]

pub number_in : (n k : ℕ) → k < n → Contains (range_with_len 0 n) k
number_in n k h = number_from 0 n k (omega arith) (omega (arith, h))

-- One number more.
pub range-more : (first n : ℕ) → range_with_len first (suc n) ≡ range_with_len first n ++ (first + n) ∷ []
range-more first zero = ap (λ a. a ∷ []) (omega arith)
range-more first (suc n) = ap (λ ns. first ∷ ns) (range-more (first + 1) n)
    ∙ ap (λ a. first ∷ (range_with_len (first + 1) n ++ a ∷ [])) (omega arith)

-- Each number is below all that follow it.
abbrev pub Rise : List ℕ → Type 0
Rise ns = AllPairs (λ x y. x < y) ns

pub rise_apart : (ns : List ℕ) → Rise ns → Apart ns
rise_apart ns = AllPairs-so (λ x y. x < y) (λ x y. x ≢ y) ns (λ x y _ _ lt e. omega arith)

pub numbers_rise : (first n : ℕ) → Rise (range_with_len first n)
numbers_rise first zero = AllPairs-nil (λ x y. x < y)
numbers_rise first (suc n) = AllPairs-put (λ x y. x < y) first (range_with_len (first + 1) n)
    (λ m is. omega (arith, (number_between (first + 1) n m is).0)) (numbers_rise (first + 1) n)

pub numbers_apart : (first n : ℕ) → Apart (range_with_len first n)
numbers_apart first n = rise_apart (range_with_len first n) (numbers_rise first n)
