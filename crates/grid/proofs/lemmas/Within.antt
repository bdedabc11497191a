-- How many cuts there are from one number to another.
use Rattle.std.proofs.Common.{◌≡◌, ℕ, zero, suc, ◌+◌, ◌-◌, ◌<◌, ◌≤◌, nat_le, nat_lt, true, false, List, [], ◌∷◌, length, refl, sym, inl, inr, ◌∙◌, arith}
use Rattle.std.specs.List.Sorted.{IsStrictlyIncreasing, IsPartitionPoint, IsPartitionedBy}
use Rattle.std.proofs.lemmas.Bool.{cases_lt, and_right, le-leb, lt-leb, ltb-true, ltb-false}
use Rattle.std.proofs.lemmas.List.Sorted.{IsPartitionedBy-ltb}
use Rattle.std.proofs.lemmas.Map.Keys.{non_decreasing_from_sorted, sorted_from_strictly_increasing}
use Rattle.point_set.proofs.lemmas.Ahead.{spread}
use Rattle.grid.specs.Cuts.{cuts_within}

-- a binary search finds where the numbers below `x` end
pub parted_below : (x : ℕ) (ns : List ℕ) (n : ℕ) → IsPartitionPoint (λ q. nat_lt q x ≡ true) (λ q. nat_lt q x ≡ false) ns n
    → IsPartitionPoint (λ m. m < x) (λ m. x ≤ m) ns n
parted_below x ns n parts = (λ k d low high. ltb-true _ _ (parts.0 k d low high), λ k d low high. ltb-false _ _ (parts.1 k d low high))

pub can_search_below : (x : ℕ) (ns : List ℕ) → IsStrictlyIncreasing ns → IsPartitionedBy (λ q. nat_lt q x) ns
can_search_below x ns up = IsPartitionedBy-ltb (λ q. q) ns x (non_decreasing_from_sorted ns (sorted_from_strictly_increasing ns up))

-- no more ascending numbers are up to `x` than there are numbers up to it
pub few_until : (ns : List ℕ) (x n : ℕ) → IsStrictlyIncreasing ns → IsPartitionPoint (λ m. m ≤ x) (λ m. x < m) ns n
    → n ≤ length ns → n ≤ x + 1
few_until ns x zero up parts le = omega arith
few_until ns x (suc n) up parts le =
    omega (arith, parts.0 n 0 (omega arith) (omega arith), spread ns 0 n up (omega arith) (omega (arith, le)))

behind_first : (P Q : ℕ → Type 0) (n i : ℕ) (ns : List ℕ) → IsPartitionPoint P Q (n ∷ ns) (suc i) → IsPartitionPoint P Q ns i
behind_first P Q n i ns parts = (
  λ k d low high. parts.0 (suc k) d (omega arith) (omega (arith, high)),
  λ k d low high. parts.1 (suc k) d (omega (arith, low)) (omega (arith, high)),
)

none_before : (P Q : ℕ → Type 0) (n : ℕ) (ns : List ℕ) → IsPartitionPoint P Q (n ∷ ns) zero → IsPartitionPoint P Q ns zero
none_before P Q n ns parts = (
  λ k d low high. absurd (omega (arith, high)),
  λ k d low high. parts.1 (suc k) d (omega arith) (omega (arith, high)),
)

-- the numbers from `low` to `high` stand between two places
between : (low high : ℕ) (ns : List ℕ) (a b : ℕ) → a ≤ b → b ≤ length ns → IsPartitionPoint (λ n. n < low) (λ n. low ≤ n) ns a
    → IsPartitionPoint (λ n. n ≤ high) (λ n. high < n) ns b → length (cuts_within low high ns) ≡ b - a
between low high [] a b le end below until = omega (arith, le, end)
between low high (n ∷ ns) zero zero le end below until =
    let more = between low high ns zero zero (omega arith) (omega arith) (none_before (λ n. n < low) (λ n. low ≤ n) n ns below)
    (none_before (λ n. n ≤ high) (λ n. high < n) n ns until) in
    rw (and_right (nat_le low n) (nat_le n high) (lt-leb n high (until.1 0 0 (omega arith) (omega arith)))) more
between low high (n ∷ ns) zero (suc b) le end below until =
    let more = between low high ns zero b (omega arith) (omega (arith, end)) (none_before (λ n. n < low) (λ n. low ≤ n) n ns below)
    (behind_first (λ n. n ≤ high) (λ n. high < n) n b ns until) in
    rw (le-leb low n (below.1 0 0 (omega arith) (omega arith)), le-leb n high (until.0 0 0 (omega arith) (omega arith)))
    (omega (arith, more))
between low high (n ∷ ns) (suc a) zero le end below until = absurd (omega (arith, le))
between low high (n ∷ ns) (suc a) (suc b) le end below until =
    let more = between low high ns a b (omega (arith, le)) (omega (arith, end)) (behind_first (λ n. n < low) (λ n. low ≤ n) n a ns below)
    (behind_first (λ n. n ≤ high) (λ n. high < n) n b ns until) in
    rw (lt-leb low n (below.0 0 0 (omega arith) (omega arith))) (omega (arith, more))

none_within : (low high : ℕ) (ns : List ℕ) → high < low → length (cuts_within low high ns) ≡ 0
none_within low high [] lt = refl
none_within low high (n ∷ ns) lt = elim (cases_lt n low) [
  | inl before ↦ rw (lt-leb low n before) (none_within low high ns lt)
  | inr from ↦ rw (and_right (nat_le low n) (nat_le n high) (lt-leb n high (omega (arith, lt, from)))) (none_within low high ns lt)
]

-- as many as lie between the places that two searches find
pub counted_within : (low high : ℕ) (ns : List ℕ) (a b : ℕ) → a ≤ length ns → b ≤ length ns
    → IsPartitionPoint (λ n. n < low) (λ n. low ≤ n) ns a → IsPartitionPoint (λ n. n ≤ high) (λ n. high < n) ns b
    → b - a ≡ length (cuts_within low high ns)
counted_within low high ns a b a_in b_in below until = elim (cases_lt b a) [
  | inl cross ↦
      let under = below.0 b 0 (omega arith) cross in
      let over = until.1 b 0 (omega arith) (omega (arith, cross, a_in)) in
      let none : b - a ≡ 0 = omega (arith, cross) in
      none ∙ sym (none_within low high ns (omega (arith, under, over)))
  | inr le ↦ sym (between low high ns a b le b_in below until)
]
