-- Lists whose elements are alike, and the pairs of some points and fields.
use Rattle.std.proofs.Common.{◌≡◌, ℕ, suc, ◌*◌, ◌==◌, Bool, true, List, [], ◌∷◌, All, map, filter, length, get_or, sum_by, refl, ap, ◌∙◌, arith, eq-eqb}
use Rattle.std.proofs.Math.Nat.{suc-mul}
use Rattle.std.proofs.lemmas.List.{length-map}
use Rattle.std.proofs.lemmas.List.Concat.{length-flat_map}
use Rattle.std.proofs.lemmas.List.Elements.{All-nil, All-head, All-tail, All-append, All-map}
use Rattle.std.proofs.lemmas.List.Folds.{list_any_at}
use Rattle.std.proofs.lemmas.List.Sums.{sum_by-cons, list_all-from_AllPass, AllPass-from_list_all}
use Rattle.vocabulary.specs.Prelude.{is_in, is_within, grid}

-- Each number of a list is in the list.
pub within_itself : (ns : List ℕ) → is_within ns ns ≡ true
within_itself ns =
    list_all-from_AllPass (is_in ns) ns (λ k d lt. list_any_at (λ m. m == get_or ns k d) ns k d lt (eq-eqb _ _ refl))

-- A sum of equal numbers is a product.
pub sum_of_same : {A : Type 0} (f : A → ℕ) (c : ℕ) (xs : List A) → All (λ x. f x ≡ c) xs
    → sum_by f xs ≡ length xs * c
sum_of_same f c [] same = omega arith
sum_of_same f c (x ∷ xs) same =
    let first = All-head (λ x. f x ≡ c) x xs same in
    let rest = sum_of_same f c xs (All-tail (λ x. f x ≡ c) x xs same) in
    let product = suc-mul (length xs) c in
    sum_by-cons f x xs ∙ omega (arith, first, rest, product)

-- A test that each element passes keeps them all.
pub length-all_kept : {A : Type 0} (test : A → Bool) (xs : List A) → All (λ x. test x ≡ true) xs
    → length (filter test xs) ≡ length xs
length-all_kept test [] passed = refl
length-all_kept test (x ∷ xs) passed =
    let rest = length-all_kept test xs (All-tail (λ x. test x ≡ true) x xs passed) in
    rw (All-head (λ x. test x ≡ true) x xs passed) (ap suc rest)

module _ (points fields : List ℕ) where
  -- How many pairs there are of some points and fields.
  pub length-grid : length (grid points fields) ≡ length points * length fields
  length-grid =
      let row : ℕ → List (ℕ × ℕ) = λ x. map (λ f. (x, f)) fields in
      let same : All (λ x. length (row x) ≡ length fields) points =
      λ k d lt. length-map fields (λ f. (get_or points k d, f)) in
      length-flat_map row points ∙ sum_of_same (λ x. length (row x)) (length fields) points same

  -- Each is of one of the points and one of the fields.
  abbrev pub IsOfBoth : ℕ × ℕ → Type 0
  IsOfBoth p = (is_in points p.0 ≡ true) × (is_in fields p.1 ≡ true)

  from : (xs : List ℕ) → All (λ x. is_in points x ≡ true) xs → All IsOfBoth (grid xs fields)
  from [] known = All-nil IsOfBoth
  from (x ∷ xs) known =
      let of_points = All-head (λ x. is_in points x ≡ true) x xs known in
      let of_fields = AllPass-from_list_all (is_in fields) fields (within_itself fields) in
      let row = All-map IsOfBoth (λ f. (x, f)) fields (λ k d lt. (of_points, of_fields k d lt)) in
      let rest = from xs (All-tail (λ x. is_in points x ≡ true) x xs known) in
      All-append IsOfBoth (map (λ f. (x, f)) fields) (grid xs fields) row rest

  pub all_of_both : All IsOfBoth (grid points fields)
  all_of_both = from points (AllPass-from_list_all (is_in points) points (within_itself points))
