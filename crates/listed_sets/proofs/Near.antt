-- Parts of an ascending list, and what of a set they have.
use Rattle.std.proofs.Common.{◌≡◌, ℕ, ◌+◌, ◌-◌, ◌<◌, ◌≤◌, inl, inr, List, Contains, filter, drop, get_or, ap, ◌∙◌, arith}
use Rattle.std.specs.List.Sorted.{IsStrictlyIncreasing}
use Rattle.std.proofs.lemmas.Bool.{cases_lt}
use Rattle.std.proofs.lemmas.List.{length-drop, get_or-drop}
use Rattle.std.proofs.lemmas.List.Kept.{IsStrictlyIncreasing-filter, AllPairs-from_increasing}
use Rattle.vocabulary.specs.Prelude.{is_in}
use Rattle.point_laws.proofs.lemmas.Cuts.{in_both, in_kept}
use Rattle.listed_sets.proofs.Keeping.{same_numbers}

-- What is no less than a number, where what is left out is.
pub in_drop : (n low : ℕ) (xs : List ℕ) → ((k d : ℕ) → 0 ≤ k → k < n → get_or xs k d < low) → (q : ℕ) → low ≤ q → Contains xs q
    → Contains (drop n xs) q
in_drop n low xs below q le c = elim (cases_lt c.0 n) [
  | inl before ↦ let less = below c.0 q (omega arith) before in let is = c.2 in absurd (omega (arith, less, is, le))
  | inr not_before ↦
      let lt = c.1 in
      let size = length-drop n xs in
      let at : n + (c.0 - n) ≡ c.0 = omega (arith, not_before) in
      (c.0 - n, omega (arith, lt, size, not_before), get_or-drop n xs (c.0 - n) q ∙ ap (λ i. get_or xs i q) at ∙ c.2)
]

-- Two lists that have the same of a set keep the same of it.
pub kept_alike : (one other xs : List ℕ) → IsStrictlyIncreasing xs → ((q : ℕ) → Contains xs q → Contains one q → Contains other q)
    → ((q : ℕ) → Contains xs q → Contains other q → Contains one q) → filter (is_in one) xs ≡ filter (is_in other) xs
kept_alike one other xs rises on back =
    same_numbers (filter (is_in one) xs) (filter (is_in other) xs)
    (AllPairs-from_increasing (filter (is_in one) xs) (IsStrictlyIncreasing-filter (is_in one) xs rises))
    (AllPairs-from_increasing (filter (is_in other) xs) (IsStrictlyIncreasing-filter (is_in other) xs rises))
    (λ q m. let both = in_both one xs q m in in_kept other xs q both.0 (on q both.0 both.1))
    (λ q m. let both = in_both other xs q m in in_kept one xs q both.0 (back q both.0 both.1))
