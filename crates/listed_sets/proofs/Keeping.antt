-- What a set and an ascending list have in common.
use Rattle.std.proofs.Common.{◌≡◌, ℕ, ◌<◌, ◌≤◌, ◌^◌, min, inl, inr, ◌⊎◌, ◌↔◌, Bool, true, false, List, [], ◌∷◌, filter, Option, Some, None, All, Contains, IsTrue, refl, sym, ap₂, subst, arith}
use Rattle.std.specs.List.Sorted.{IsStrictlyIncreasing}
use Rattle.std.proofs.lemmas.Bool.{cases_lt, true≢false, false_from_ne_true}
use Rattle.std.proofs.lemmas.List.Elements.{All-filter}
use Rattle.std.proofs.lemmas.List.Kept.{IsStrictlyIncreasing-filter, AllPairs-from_increasing}
use Rattle.list_lemmas.proofs.lemmas.Pairs.{AllPairs-first, AllPairs-rest}
use Rattle.list_lemmas.proofs.lemmas.Contained.{Contains-here, Contains-nil, Contains-later, Contains-cases}
use Rattle.vocabulary.specs.Prelude.{is_in}
use Rattle.point_set.specs.Least.{IsLeast, IsLeastFrom, IsLeastGap}
use Rattle.point_set.proofs.lemmas.Ahead.{in_or_not}
use Rattle.log_laws.proofs.lemmas.Members.{is_in_of, member_in}
use Rattle.list_lemmas.proofs.lemmas.Filtered.{of_filter, in_filter}
use Rattle.list_lemmas.proofs.lemmas.Ranges.{Rise}
use Rattle.point_laws.specs.Cut.{kept}
use Rattle.point_laws.proofs.lemmas.Cuts.{in_both, in_kept}

-- The least common number is the least of those that are kept.
pub kept_least : (listed xs : List ℕ) (low : ℕ) (o : Option ℕ) → IsLeast (λ q. Contains xs q × Contains listed q × (low ≤ q)) o
    → IsLeastFrom (filter (is_in listed) xs) low o
kept_least listed xs low (Some p) least = (
  (in_kept listed xs p least.0.0 least.0.1, least.0.2),
  λ q h. let both = in_both listed xs q h.0 in least.1 q (both.0, both.1, h.1),
)
kept_least listed xs low None least = λ q h. let both = in_both listed xs q h.0 in least q (both.0, both.1, h.1)

-- ---- the laws of sets

pub kept_ascends : (listed : Option (List ℕ)) (xs : List ℕ) → IsStrictlyIncreasing xs → IsStrictlyIncreasing (kept listed xs)
kept_ascends (Some listed) xs up = IsStrictlyIncreasing-filter (is_in listed) xs up
kept_ascends None xs up = up

pub kept_bounded : (listed : Option (List ℕ)) (xs : List ℕ) → All (λ p. p < 2 ^ 64) xs → All (λ p. p < 2 ^ 64) (kept listed xs)
kept_bounded (Some listed) xs low = All-filter (is_in listed) (λ p. p < 2 ^ 64) xs low
kept_bounded None xs low = low

-- ---- gathered along the list

pub same_test : (xs : List ℕ) (q : ℕ) (r : Bool) → IsTrue r ↔ Contains xs q → is_in xs q ≡ r
same_test xs q true h = is_in_of xs q (h.0 refl)
same_test xs q false h = false_from_ne_true (is_in xs q) (λ e. true≢false (sym (h.1 (member_in xs q e))))

-- Numbers that rise are those that they are.
pub same_numbers : (xs ys : List ℕ) → Rise xs → Rise ys → ((q : ℕ) → Contains xs q → Contains ys q) → ((q : ℕ) → Contains ys q → Contains xs q)
    → xs ≡ ys
same_numbers [] [] a b on back = refl
same_numbers [] (y ∷ ys) a b on back = absurd (Contains-nil (back y (Contains-here ys)))
same_numbers (x ∷ xs) [] a b on back = absurd (Contains-nil (on x (Contains-here xs)))
same_numbers (x ∷ xs) (y ∷ ys) a b on back =
    let above = AllPairs-first (λ x y. x < y) x xs a in
    let beyond = AllPairs-first (λ x y. x < y) y ys b in
    let e : x ≡ y = first x y xs ys above beyond (on x (Contains-here xs)) (back y (Contains-here ys)) in
    ap₂ (λ z zs. z ∷ zs) e (same_numbers xs ys (AllPairs-rest (λ x y. x < y) x xs a) (AllPairs-rest (λ x y. x < y) y ys b)
    (λ q m. later y q ys (let lt = above q m in omega (arith, lt, e)) (on q (Contains-later xs m)))
    (λ q m. later x q xs (let lt = beyond q m in omega (arith, lt, e)) (back q (Contains-later ys m))))
  where
    later : (y q : ℕ) (ys : List ℕ) → y < q → Contains (y ∷ ys) q → Contains ys q
    later y q ys lt m = elim (Contains-cases ys m) [ inl is ↦ absurd (omega (arith, lt, is)) | inr rest ↦ rest ]

    first : (x y : ℕ) (xs ys : List ℕ) → ((q : ℕ) → Contains xs q → x < q) → ((q : ℕ) → Contains ys q → y < q) → Contains (y ∷ ys) x
        → Contains (x ∷ xs) y → x ≡ y
    first x y xs ys a b m n = elim (Contains-cases ys m) [
      | inl is ↦ is
      | inr far ↦ elim (Contains-cases xs n) [ inl is ↦ sym is | inr beyond ↦ absurd (omega (arith, b x far, a y beyond)) ]
    ]

pub turned : (listed xs : List ℕ) → IsStrictlyIncreasing listed → IsStrictlyIncreasing xs
    → filter (is_in xs) listed ≡ filter (is_in listed) xs
turned listed xs up rises =
    same_numbers (filter (is_in xs) listed) (filter (is_in listed) xs)
    (AllPairs-from_increasing (filter (is_in xs) listed) (IsStrictlyIncreasing-filter (is_in xs) listed up))
    (AllPairs-from_increasing (filter (is_in listed) xs) (IsStrictlyIncreasing-filter (is_in listed) xs rises))
    (in_other listed xs) (in_other xs listed)
  where
    in_other : (xs ys : List ℕ) (q : ℕ) → Contains (filter (is_in ys) xs) q → Contains (filter (is_in xs) ys) q
    in_other xs ys q m =
        let both = of_filter (is_in ys) xs q m in
        in_filter (is_in xs) ys q (member_in ys q both.1) (is_in_of xs q both.0)

-- ---- gaps

-- A number that is not kept is in a gap of the one or of the other.
in_gap : (listed xs : List ℕ) (q : ℕ) → (Contains (filter (is_in listed) xs) q → ⊥) → (Contains xs q → ⊥) ⊎ (Contains listed q → ⊥)
in_gap listed xs q none = elim (in_or_not xs q) [
  | inl here ↦ inr (λ there. none (in_kept listed xs q here there))
  | inr missed ↦ inl missed
]

module _ (listed xs : List ℕ) (p : ℕ) where
  abbrev Gap : Option ℕ → Type 0
  Gap o = IsLeastGap (filter (is_in listed) xs) p o

  by_set : (q : ℕ) → (Contains xs q → ⊥) → Contains (filter (is_in listed) xs) q → ⊥
  by_set q none c = none (in_both listed xs q c).0

  by_list : (q : ℕ) → (Contains listed q → ⊥) → Contains (filter (is_in listed) xs) q → ⊥
  by_list q none c = none (in_both listed xs q c).1

  pub gap_both : (a b r : ℕ) → IsLeastGap xs p (Some a) → IsLeastGap listed p (Some b) → r ≡ min a b → Gap (Some r)
  gap_both a b r one other is = elim (cases_lt a b) [
    | inl less ↦
        let e : a ≡ r = omega (arith, is, less) in
        subst (λ n. Gap (Some n)) e (
          (by_set a one.0.0, one.0.1, one.0.2),
          λ q h. elim (in_gap listed xs q h.0) [
            | inl g ↦ one.1 q (g, h.1, h.2)
            | inr g ↦ let far = other.1 q (g, h.1, h.2) in
                omega (arith, far, less)
          ],
        )
    | inr more ↦
        let e : b ≡ r = omega (arith, is, more) in
        subst (λ n. Gap (Some n)) e (
          (by_list b other.0.0, other.0.1, other.0.2),
          λ q h. elim (in_gap listed xs q h.0) [
            | inl g ↦ let far = one.1 q (g, h.1, h.2) in
                omega (arith, far, more)
            | inr g ↦ other.1 q (g, h.1, h.2)
          ],
        )
  ]

  pub gap_set : (a : ℕ) → IsLeastGap xs p (Some a) → IsLeastGap listed p None → Gap (Some a)
  gap_set a one other = (
    (by_set a one.0.0, one.0.1, one.0.2),
    λ q h. elim (in_gap listed xs q h.0) [ inl g ↦ one.1 q (g, h.1, h.2) | inr g ↦ absurd (other q (g, h.1, h.2)) ],
  )

  pub gap_list : (b : Option ℕ) → IsLeastGap xs p None → IsLeastGap listed p b → Gap b
  gap_list (Some b) one other = (
    (by_list b other.0.0, other.0.1, other.0.2),
    λ q h. elim (in_gap listed xs q h.0) [ inl g ↦ absurd (one q (g, h.1, h.2)) | inr g ↦ other.1 q (g, h.1, h.2) ],
  )
  gap_list None one other = λ q h. elim (in_gap listed xs q h.0) [ inl g ↦ one q (g, h.1, h.2) | inr g ↦ other q (g, h.1, h.2) ]
