-- Numbers in lists: as tests, and as facts.
use Rattle.std.proofs.Common.{◌≡◌, ℕ, ◌<◌, ◌≤◌, ◌==◌, true, List, Contains, length, get_or, Result, Ok, Err, inl, inr, sym, ap, subst, ◌∙◌, refl, eq-eqb, arith}
use Rattle.std.specs.Bool.{Decides}
use Rattle.std.specs.List.Sorted.{IsStrictlyIncreasing, IsBinarySearchResult}
use Rattle.std.specs.Ordering.{nat_cmp}
use Rattle.std.specs.Result.{is_ok}
use Rattle.std.proofs.lemmas.Bool.{cases_eq, cases_lt, eqb-true, ne_eqb}
use Rattle.std.proofs.lemmas.Bool.Decides.{nat_tests}
use Rattle.std.proofs.lemmas.List.Sorted.{searched}
use Rattle.std.proofs.lemmas.List.Kept.{AllPairs-from_increasing}
use Rattle.std.proofs.lemmas.List.Folds.{list_any_at, list_any_none, Any-from_list_any, list_any-from_Any}
use Rattle.std.proofs.lemmas.Grind.{get_or_default_zero}
use Rattle.vocabulary.specs.Prelude.{is_in}

pub eq_turned : (a b : ℕ) → (a == b) ≡ (b == a)
eq_turned a b = grind (arith, nat_tests)

-- A test for a member.
pub has_in : (xs : List ℕ) (x : ℕ) → is_in xs x ≡ true → Contains xs x
has_in xs x h = let r = Any-from_list_any (λ m. m == x) xs h in subst (Contains xs) (eqb-true r.1 x r.4) (r.0, r.2, r.3)

pub in_has : (xs : List ℕ) (x : ℕ) → Contains xs x → is_in xs x ≡ true
in_has xs x h = list_any-from_Any (λ m. m == x) xs (h.0, x, h.1, h.2, eq-eqb x x refl)

pub Decides-is_in : (xs : List ℕ) (x : ℕ) → Decides (is_in xs x) (Contains xs x)
Decides-is_in xs x = (has_in xs x, in_has xs x)

-- What a binary search tells.
rises : (xs : List ℕ) → IsStrictlyIncreasing xs → (i j : ℕ) → i ≤ j → j < length xs → get_or xs i 0 ≤ get_or xs j 0
rises xs up i j le lt =
    elim (cases_eq i j) [
      | inl e ↦ let h : get_or xs i 0 ≡ get_or xs j 0 = ap (λ k. get_or xs k 0) e in omega arith
      | inr ne ↦ let less : i < j = omega arith in let h : get_or xs i 0 < get_or xs j 0 = AllPairs-from_increasing xs up i j 0 less lt in
          omega arith
    ]

pub is_in-search : (xs : List ℕ) (n : ℕ) (r : Result ℕ ℕ) → IsStrictlyIncreasing xs → IsBinarySearchResult (λ y. nat_cmp y n) xs r
    → is_ok r ≡ is_in xs n
is_in-search xs n (Ok i) up found =
    let h = searched xs n (Ok i) found (rises xs up) in
    sym (list_any_at (λ m. m == n) xs i 0 h.0 (eq-eqb (get_or xs i 0) n h.1))
is_in-search xs n (Err i) up found =
    let h = searched xs n (Err i) found (rises xs up) in
    sym (list_any_none (λ m. m == n) xs (λ k d lt. let e : get_or xs k d ≡ get_or xs k 0 = get_or_default_zero xs k d lt in
    ap (λ m. m == n) e ∙ elim (cases_lt k i) [
      | inl low ↦ let g : get_or xs k 0 < n = h.1 k low in
          ne_eqb (get_or xs k 0) n (omega arith)
      | inr high ↦ let g : n < get_or xs k 0 = h.2 k high lt in
          ne_eqb (get_or xs k 0) n (omega arith)
    ]))
