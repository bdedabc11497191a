-- The numbers of an ascending list from one of them on, and grids over them.
use Rattle.std.proofs.Common.{◌≡◌, ℕ, ◌+◌, ◌<◌, ◌≤◌, inl, inr, Bool, true, false, nat_le, ◌==◌, List, [], ◌∷◌, ◌++◌, map, filter, length, get_or, Option, Some, None, Contains, refl, sym, ap, ◌∙◌, subst, arith}
use Rattle.std.specs.List.Sorted.{IsStrictlyIncreasing}
use Rattle.std.proofs.lemmas.Bool.{cases_lt, cases_Bool, le-leb, lt-leb, eqb-true}
use Rattle.std.proofs.lemmas.List.{drop_more, drop_all}
use Rattle.std.proofs.lemmas.List.Kept.{AllPairs-from_increasing}
use Rattle.list_lemmas.proofs.lemmas.Pairs.{AllPairs-first, AllPairs-rest}
use Rattle.list_lemmas.proofs.lemmas.Contained.{Contains-here, Contains-later, Contains-nil, Contains-cases}
use Rattle.point_set.specs.Least.{IsLeastFrom, IsLeastOf, points_from}
use Rattle.vocabulary.specs.Prelude.{grid}
use Rattle.list_lemmas.proofs.lemmas.Ranges.{Rise}
use Rattle.inst_steps.specs.Grids.{behind, grid_from}

filter_same : (f g : ℕ → Bool) (xs : List ℕ) → ((q : ℕ) → Contains xs q → f q ≡ g q) → filter f xs ≡ filter g xs
filter_same f g [] h = refl
filter_same f g (x ∷ xs) h =
    let rest = filter_same f g xs (λ q m. h q (Contains-later xs m)) in
    elim (cases_Bool (g x)) [
      | inl here ↦ rw (h x (Contains-here xs) ∙ here, here) (ap (λ ys. x ∷ ys) rest)
      | inr not_here ↦ rw (h x (Contains-here xs) ∙ not_here, not_here) rest
    ]

filter_none : (f : ℕ → Bool) (xs : List ℕ) → ((q : ℕ) → Contains xs q → f q ≡ false) → filter f xs ≡ []
filter_none f [] h = refl
filter_none f (x ∷ xs) h = rw (h x (Contains-here xs)) (filter_none f xs (λ q m. h q (Contains-later xs m)))

-- What is left from a number on is left from the least number from it on.
pub from_least : (xs : List ℕ) (low : ℕ) (o : Option ℕ) → IsLeastFrom xs low o → filter (λ q. nat_le low q) xs ≡ points_from xs o
from_least xs low (Some p) least = filter_same (λ q. nat_le low q) (λ q. nat_le p q) xs (λ q m. elim (cases_lt q low) [
  | inl below ↦ lt-leb low q below ∙ sym (lt-leb p q (omega (arith, below, least.0.1)))
  | inr from ↦ le-leb low q from ∙ sym (le-leb p q (least.1 q (m, from)))
])
from_least xs low None least = filter_none (λ q. nat_le low q) xs (λ q m. elim (cases_lt q low) [
  | inl below ↦ lt-leb low q below
  | inr from ↦ absurd (least q (m, from))
])

first_in_rise : (xs : List ℕ) (p : ℕ) → Rise xs → Contains xs p → filter (λ q. nat_le p q) xs ≡ p ∷ behind xs p
first_in_rise [] p up m = absurd (Contains-nil m)
first_in_rise (x ∷ xs) p up m =
    let above = AllPairs-first (λ x y. x < y) x xs up in
    elim (Contains-cases xs m) [
      | inl is ↦ subst (λ p. filter (λ q. nat_le p q) (x ∷ xs) ≡ p ∷ behind (x ∷ xs) p) (sym is)
          (rw (le-leb x x (omega arith), lt-leb (x + 1) x (omega arith))
          (ap (λ ys. x ∷ ys) (filter_same (λ q. nat_le x q) (λ q. nat_le (x + 1) q) xs
          (λ q n. le-leb x q (omega (arith, above q n)) ∙ sym (le-leb (x + 1) q (omega (arith, above q n)))))))
      | inr later ↦
          let lt = above p later in
          rw (lt-leb p x lt, lt-leb (p + 1) x (omega (arith, lt))) (first_in_rise xs p (AllPairs-rest (λ x y. x < y) x xs up) later)
    ]

-- The grid of what is left from a point on begins at the point.
pub grid_first : (xs fields : List ℕ) (p : ℕ) → IsStrictlyIncreasing xs → Contains xs p
    → grid (filter (λ q. nat_le p q) xs) fields ≡ grid_from xs fields p 0
grid_first xs fields p up has = ap (λ ps. grid ps fields) (first_in_rise xs p (AllPairs-from_increasing xs up) has)

everything : (xs : List ℕ) → filter (λ q. nat_le 0 q) xs ≡ xs
everything [] = refl
everything (x ∷ xs) = rw (le-leb 0 x (omega arith)) (ap (λ ys. x ∷ ys) (everything xs))

pub grid_all : (xs fields : List ℕ) (p : ℕ) → IsStrictlyIncreasing xs → IsLeastOf xs (Some p) → grid xs fields ≡ grid_from xs fields p 0
grid_all xs fields p up least = ap (λ ps. grid ps fields) (sym (everything xs)
    ∙ from_least xs 0 (Some p) ((least.0, omega arith), λ q h. least.1 q h.0)) ∙ grid_first xs fields p up least.0

pub grid_none : (xs fields : List ℕ) → IsLeastOf xs None → grid xs fields ≡ []
grid_none [] fields least = refl
grid_none (x ∷ xs) fields least = absurd (least x (0, omega arith, refl))

pub grid_no_fields : (xs : List ℕ) → grid xs [] ≡ []
grid_no_fields [] = refl
grid_no_fields (x ∷ xs) = grid_no_fields xs

-- One field on, and from the last field on to the next point.
pub grid_field : (xs fields : List ℕ) (p k : ℕ) → k < length fields
    → grid_from xs fields p k ≡ (p, get_or fields k 0) ∷ grid_from xs fields p (k + 1)
grid_field xs fields p k lt = ap (λ fs. map (λ f. (p, f)) fs ++ grid (behind xs p) fields) (drop_more fields k 0 lt)

pub grid_last : (xs fields : List ℕ) (p k : ℕ) → k < length fields → length fields ≤ k + 1
    → grid_from xs fields p k ≡ (p, get_or fields k 0) ∷ grid (behind xs p) fields
grid_last xs fields p k lt last = grid_field xs fields p k lt
    ∙ ap (λ fs. (p, get_or fields k 0) ∷ (map (λ f. (p, f)) fs ++ grid (behind xs p) fields)) (drop_all (k + 1) fields last)

pub grid_next : (xs fields : List ℕ) (p q : ℕ) → IsStrictlyIncreasing xs → IsLeastFrom xs (p + 1) (Some q)
    → grid (behind xs p) fields ≡ grid_from xs fields q 0
grid_next xs fields p q up least = ap (λ ps. grid ps fields) (from_least xs (p + 1) (Some q) least) ∙ grid_first xs fields q up least.0.0

pub grid_over : (xs fields : List ℕ) (p : ℕ) → IsLeastFrom xs (p + 1) None → grid (behind xs p) fields ≡ []
grid_over xs fields p least = ap (λ ps. grid ps fields) (from_least xs (p + 1) None least)

pub grid_empty : (xs fields : List ℕ) → (length fields == 0) ≡ true → [] ≡ grid xs fields
grid_empty xs [] e = sym (grid_no_fields xs)
grid_empty xs (f ∷ fields) e = absurd (omega (arith, eqb-true (length (f ∷ fields)) 0 e))
