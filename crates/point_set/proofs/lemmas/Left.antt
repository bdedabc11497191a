-- The numbers of an ascending list from one of them on.
use Rattle.std.proofs.Common.{◌≡◌, ℕ, zero, suc, ◌+◌, ◌<◌, ◌≤◌, nat_le, List, [], ◌∷◌, Option, Some, None, Contains, length, filter, get_or, refl, sym, ap, subst, inl, inr, arith}
use Rattle.std.specs.List.Sorted.{IsStrictlyIncreasing}
use Rattle.std.specs.Ordering.{nat_cmp}
use Rattle.std.proofs.lemmas.Bool.{cases_order, le-leb, lt-leb}
use Rattle.std.proofs.lemmas.Map.Keys.{sorted_tail, sorted_from_strictly_increasing, IsStrictlyIncreasing-from_sorted}
use Rattle.point_set.specs.Least.{IsLeastOf, IsLeastFrom, points_from}
use Rattle.point_set.proofs.lemmas.Ahead.{at_place, spread}

pub here : (x : ℕ) (xs : List ℕ) → Contains (x ∷ xs) x
here x xs = (0, omega arith, refl)

pub behind : (x y : ℕ) (xs : List ℕ) → Contains xs y → Contains (x ∷ xs) y
behind x y xs h = (suc h.0, omega (arith, h.1), h.2)

pub tail_up : (x : ℕ) (xs : List ℕ) → IsStrictlyIncreasing (x ∷ xs) → IsStrictlyIncreasing xs
tail_up x xs up = IsStrictlyIncreasing-from_sorted xs (sorted_tail nat_cmp x xs (sorted_from_strictly_increasing (x ∷ xs) up))

pub tail_above : (x y : ℕ) (xs : List ℕ) → IsStrictlyIncreasing (x ∷ xs) → Contains xs y → x < y
tail_above x y xs up h = omega (arith, at_place xs y h, spread (x ∷ xs) 0 (suc h.0) up (omega arith) (omega (arith, h.1)))

-- all are left where none is less
all_left : (p : ℕ) (xs : List ℕ) → ((q : ℕ) → Contains xs q → p ≤ q) → filter (λ q. nat_le p q) xs ≡ xs
all_left p [] above = refl
all_left p (x ∷ xs) above = rw (le-leb p x (above x (here x xs))) (ap (λ ys. x ∷ ys) (all_left p xs (λ q h. above q (behind x q xs h))))

none_in : (xs : List ℕ) → ((q : ℕ) → Contains xs q → ⊥) → xs ≡ []
none_in [] none = refl
none_in (x ∷ xs) none = absurd (none x (here x xs))

pub left_of_all : (xs : List ℕ) (o : Option ℕ) → IsLeastOf xs o → points_from xs o ≡ xs
left_of_all xs (Some p) least = all_left p xs least.1
left_of_all xs None least = sym (none_in xs least)

left_behind_first : (x : ℕ) (xs : List ℕ) (o : Option ℕ) → IsStrictlyIncreasing (x ∷ xs) → IsLeastFrom (x ∷ xs) (x + 1) o
    → points_from (x ∷ xs) o ≡ xs
left_behind_first x xs (Some q) up least = rw (lt-leb q x (omega (arith, least.0.1)))
    (all_left q xs (λ r h. least.1 r (behind x r xs h, omega (arith, tail_above x r xs up h))))
left_behind_first x xs None up least = sym (none_in xs (λ r h. least r (behind x r xs h, omega (arith, tail_above x r xs up h))))

pub in_tail : (x q k : ℕ) (xs : List ℕ) → x < q → k < length (x ∷ xs) → get_or (x ∷ xs) k q ≡ q → Contains xs q
in_tail x q zero xs below lt at = absurd (omega arith)
in_tail x q (suc k) xs below lt at = (k, omega arith, at)

least_behind : (x p : ℕ) (xs : List ℕ) (o : Option ℕ) → x < p → IsLeastFrom (x ∷ xs) p o → IsLeastFrom xs p o
least_behind x p xs (Some q) lt least =
    ((in_tail x q least.0.0.0 xs (omega (arith, least.0.1)) least.0.0.1 least.0.0.2, least.0.1), λ r h. least.1 r (behind x r xs h.0, h.1))
least_behind x p xs None lt least = λ r h. least r (behind x r xs h.0, h.1)

left_past : (x p : ℕ) (xs : List ℕ) (o : Option ℕ) → x < p → IsLeastFrom (x ∷ xs) p o → points_from (x ∷ xs) o ≡ points_from xs o
left_past x p xs (Some q) lt least = rw (lt-leb q x (omega (arith, least.0.1)))
left_past x p xs None lt least = refl

-- one of the numbers is left, and those from the next on
pub left_behind : (p : ℕ) (xs : List ℕ) (o : Option ℕ) → IsStrictlyIncreasing xs → Contains xs p → IsLeastFrom xs (p + 1) o
    → filter (λ q. nat_le p q) xs ≡ p ∷ points_from xs o
left_behind p [] o up h least = absurd (omega (arith, h.1))
left_behind p (x ∷ xs) o up h least = elim (cases_order p x) [
  | inl same ↦
      subst (λ n. IsLeastFrom (x ∷ xs) (n + 1) o → filter (λ q. nat_le n q) (x ∷ xs) ≡ n ∷ points_from (x ∷ xs) o) (sym same)
      (λ from. rw (left_behind_first x xs o up from, le-leb x x (omega arith))
      (ap (λ ys. x ∷ ys) (all_left x xs (λ q r. omega (arith, tail_above x q xs up r))))) least
  | inr (inl below) ↦ absurd (omega (arith, below, at_place (x ∷ xs) p h, spread (x ∷ xs) 0 h.0 up (omega arith) h.1))
  | inr (inr above) ↦
      rw (left_past x (p + 1) xs o (omega (arith, above)) least, lt-leb p x above)
      (left_behind p xs o (tail_up x xs up) (in_tail x p h.0 xs above h.1 h.2) (least_behind x (p + 1) xs o (omega (arith, above)) least))
]
