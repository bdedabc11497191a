-- Common points, gathered along an ascending list.
use Rattle.std.proofs.Common.{◌≡◌, ℕ, ◌+◌, ◌<◌, ◌≤◌, Bool, true, false, cond, List, [], ◌∷◌, ◌++◌, filter, take, length, get_or, Option, Some, Contains, sym, ap, ◌∙◌, subst, arith}
use Rattle.std.specs.List.Sorted.{IsStrictlyIncreasing}
use Rattle.std.proofs.lemmas.Grind.{common_steps}
use Rattle.std.proofs.lemmas.List.{append-nil, get_or_default}
use Rattle.std.proofs.lemmas.List.Elements.{filter_more, Contains-append_right}
use Rattle.std.proofs.lemmas.List.Filters.{length-filter_more}
use Rattle.std.proofs.lemmas.List.Sums.{length-filter, count_by-le-length}
use Rattle.list_lemmas.proofs.lemmas.Contained.{Contains-here}
use Rattle.point_set.specs.Least.{IsGreatestOf}
use Rattle.point_set.proofs.lemmas.Ahead.{spread}
use Rattle.list_lemmas.proofs.lemmas.Filtered.{of_filter}

-- What is not below the last of the numbers so far is none of them.
so_far : (xs : List ℕ) (i q : ℕ) → IsStrictlyIncreasing xs → i < length xs → Contains (take (i + 1) xs) q → q ≤ get_or xs i 0
so_far xs i q up lt c =
    let k = c.0 in
    let below : k < i + 1 = grind (arith, common_steps, c.1) in
    let is : get_or xs k q ≡ q = grind (arith, common_steps, c.2, below) in
    let same : get_or xs k q ≡ get_or xs k 0 = get_or_default xs k q 0 (omega (arith, below, lt)) in
    let far = spread xs k i up (omega (arith, below)) lt in
    omega (arith, far, is, same)

module _ (p : ℕ → Bool) (xs : List ℕ) (i : ℕ) (lt : i < length xs) where
  pub one_more : p (get_or xs i 0) ≡ true → filter p (take (i + 1) xs) ≡ filter p (take i xs) ++ get_or xs i 0 ∷ []
  one_more e = filter_more p xs i 0 lt ∙ ap (λ b. filter p (take i xs) ++ cond b (get_or xs i 0 ∷ []) []) e

  pub none_more : p (get_or xs i 0) ≡ false → filter p (take (i + 1) xs) ≡ filter p (take i xs)
  none_more e = filter_more p xs i 0 lt ∙ ap (λ b. filter p (take i xs) ++ cond b (get_or xs i 0 ∷ []) []) e
      ∙ append-nil (filter p (take i xs))

  pub last_more : IsStrictlyIncreasing xs → p (get_or xs i 0) ≡ true → IsGreatestOf (filter p (take (i + 1) xs)) (Some (get_or xs i 0))
  last_more up e = (
    subst (λ ys. Contains ys (get_or xs i 0)) (sym (one_more e))
        (Contains-append_right (filter p (take i xs)) (get_or xs i 0 ∷ []) (get_or xs i 0) (Contains-here [])),
    λ q c. so_far xs i q up lt (of_filter p (take (i + 1) xs) q c).0,
  )

  pub last_still : (last : Option ℕ) → p (get_or xs i 0) ≡ false → IsGreatestOf (filter p (take i xs)) last
      → IsGreatestOf (filter p (take (i + 1) xs)) last
  last_still last e h = subst (λ ys. IsGreatestOf ys last) (sym (none_more e)) h

  pub count_more : p (get_or xs i 0) ≡ true → length (filter p (take (i + 1) xs)) ≡ length (filter p (take i xs)) + 1
  count_more e = length-filter_more p xs i 0 lt ∙ ap (λ b. length (filter p (take i xs)) + cond b 1 0) e

pub few_so_far : (p : ℕ → Bool) (xs : List ℕ) (i : ℕ) → i < length xs → length (filter p (take i xs)) ≤ i
few_so_far p xs i lt =
    let taken : length (take i xs) ≡ i = grind (arith, common_steps, lt) in
    omega (arith, length-filter p (take i xs), count_by-le-length p (take i xs), taken)
