-- Places of a list of points that a set has, found from one on.
use Rattle.std.proofs.Common.{◌≡◌, ℕ, zero, suc, ◌+◌, ◌<◌, ◌≤◌, inl, inr, Bool, true, false, List, [], ◌∷◌, ◌++◌, filter, length, get_or, Contains, Option, Some, None, IfSome, refl, sym, ap, ◌∙◌, arith}
use Rattle.std.specs.List.{range_with_len}
use Rattle.std.specs.List.Sorted.{IsPartitionPoint, IsStrictlyIncreasing}
use Rattle.std.proofs.lemmas.Bool.{cases_eq, cases_lt, false_from_ne_true}
use Rattle.std.proofs.lemmas.List.{append-nil}
use Rattle.std.proofs.lemmas.List.Elements.{filter-append}
use Rattle.std.proofs.lemmas.List.Kept.{AllPairs-from_increasing}
use Rattle.point_set.specs.Least.{IsLeastFrom}
use Rattle.vocabulary.specs.Prelude.{is_in}
use Rattle.list_lemmas.proofs.lemmas.Ranges.{range-more}
use Rattle.log_laws.proofs.lemmas.Members.{is_in_of, member_in}

numbers_more : (n : ℕ) → range_with_len 0 (n + 1) ≡ range_with_len 0 n ++ n ∷ []
numbers_more n =
    let one : n + 1 ≡ suc n = omega arith in
    let none : 0 + n ≡ n = omega arith in
    ap (λ m. range_with_len 0 m) one ∙ range-more 0 n ∙ ap (λ a. range_with_len 0 n ++ a ∷ []) none

pub filter_last : (p : ℕ → Bool) (n : ℕ) → p n ≡ true → filter p (range_with_len 0 (n + 1)) ≡ filter p (range_with_len 0 n) ++ n ∷ []
filter_last p n e =
    ap (filter p) (numbers_more n) ∙ filter-append p (range_with_len 0 n) (n ∷ []) ∙ ap (λ ns. filter p (range_with_len 0 n) ++ ns) (rw e refl)

pub filter_less : (p : ℕ → Bool) (n : ℕ) → p n ≡ false → filter p (range_with_len 0 (n + 1)) ≡ filter p (range_with_len 0 n)
filter_less p n e =
    ap (filter p) (numbers_more n) ∙ filter-append p (range_with_len 0 n) (n ∷ [])
    ∙ ap (λ ns. filter p (range_with_len 0 n) ++ ns) (rw e refl) ∙ append-nil (filter p (range_with_len 0 n))

pub filter_skip : (p : ℕ → Bool) (a b : ℕ) → a ≤ b → ((i : ℕ) → a ≤ i → i < b → p i ≡ false)
    → filter p (range_with_len 0 b) ≡ filter p (range_with_len 0 a)
filter_skip p a zero le h = let none : zero ≡ a = omega (arith, le) in ap (λ n. filter p (range_with_len 0 n)) none
filter_skip p a (suc b) le h = elim (cases_eq a (suc b)) [
  | inl all ↦ ap (λ n. filter p (range_with_len 0 n)) (sym all)
  | inr some ↦
      let one : suc b ≡ b + 1 = omega arith in
      ap (λ n. filter p (range_with_len 0 n)) one ∙ filter_less p b (h b (omega (arith, le, some)) (omega arith))
      ∙ filter_skip p a b (omega (arith, le, some)) (λ i lo lt. h i lo (omega (arith, lt)))
]

pub is_in_set : (set : List ℕ) (p : ℕ) → Contains set p → is_in set p ≡ true
is_in_set set p c = is_in_of set p c

pub not_in_set : (set : List ℕ) (p : ℕ) → (Contains set p → ⊥) → is_in set p ≡ false
not_in_set set p none = false_from_ne_true (is_in set p) (λ is. none (member_in set p is))

pub at_least : (points : List ℕ) (i j : ℕ) → IsStrictlyIncreasing points → i ≤ j → j < length points → get_or points i 0 ≤ get_or points j 0
at_least points i j ascend le within = elim (cases_eq i j) [
  | inl same ↦ omega (arith, ap (λ k. get_or points k 0) same)
  | inr apart ↦ let less = AllPairs-from_increasing points ascend i j 0 (omega (arith, le, apart)) within in omega (arith, less)
]

-- From a point on a set has none before the next that it has.
pub passed_over : (set points : List ℕ) (place : ℕ) (next : Option ℕ) → IsStrictlyIncreasing points
    → IsLeastFrom set (get_or points place 0) next → (i : ℕ) → place ≤ i → i < length points
    → IfSome next (λ n. get_or points i 0 < n) → is_in set (get_or points i 0) ≡ false
passed_over set points place None ascend none i le within h =
    not_in_set set (get_or points i 0) (λ has. none (get_or points i 0) (has, at_least points place i ascend le within))
passed_over set points place (Some n) ascend least i le within below =
    not_in_set set (get_or points i 0) (λ has.
    let no_less = least.1 (get_or points i 0) (has, at_least points place i ascend le within) in omega (arith, no_less, below))

-- The place of the next point is a later one.
pub goes_on : (points : List ℕ) (place end next : ℕ) → IsPartitionPoint (λ q. q < next) (λ q. next ≤ q) points end → place < length points
    → (next ≡ get_or points place 0 → ⊥) → get_or points place 0 ≤ next → place < end
goes_on points place end next parts within other le = elim (cases_lt place end) [
  | inl before ↦ before
  | inr behind ↦ let no_less = parts.1 place 0 behind within in absurd (other (omega (arith, no_less, le)))
]
