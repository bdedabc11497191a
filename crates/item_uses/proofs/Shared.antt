-- The least number of two lists.
use Rattle.std.proofs.Common.{◌≡◌, ℕ, ◌≤◌, inl, inr, Bool, true, false, List, [], ◌∷◌, Contains, refl, ap, arith, Option, Some, None, subst, nat_lt, filter, find, slice_get, sym, ◌∙◌}
use Rattle.std.specs.List.Sorted.{IsStrictlyIncreasing}
use Rattle.std.proofs.lemmas.Bool.{cases_Bool, ltb-true, ltb-false, le-ltb}
use Rattle.std.proofs.lemmas.List.Kept.{IsStrictlyIncreasing-filter}
use Rattle.list_lemmas.proofs.lemmas.Contained.{Contains-nil, Contains-here, Contains-later, Contains-cases}
use Rattle.vocabulary.specs.Prelude.{is_in}
use Rattle.point_set.specs.Least.{IsLeast, IsLeastCommon}
use Rattle.log_laws.proofs.lemmas.Members.{is_in_of, member_in}
use Rattle.item_uses.specs.Sharing.{least_number, less_or, least_shared}
use Rattle.item_uses.proofs.Ends.{first_least}
use Rattle.list_lemmas.proofs.lemmas.Filtered.{of_filter, in_filter}

pub number_is_least : (ns : List ℕ) → IsLeast (Contains ns) (least_number ns)
number_is_least [] = λ q m. Contains-nil m
number_is_least (n ∷ ns) = more n (least_number ns) ns (number_is_least ns)
  where
    pick : (n p : ℕ) (ns : List ℕ) → IsLeast (Contains ns) (Some p) → (b : Bool) → nat_lt p n ≡ b
        → IsLeast (Contains (n ∷ ns)) (Some (less_or n (Some p)))
    pick n p ns h true e = rw e (
      Contains-later ns h.0,
      λ q m. elim (Contains-cases ns m) [
        | inl is ↦ omega (arith, is, ltb-true p n e)
        | inr later ↦ h.1 q later
      ],
    )
    pick n p ns h false e = rw e (
      Contains-here ns,
      λ q m. elim (Contains-cases ns m) [
        | inl is ↦ omega (arith, is)
        | inr later ↦ omega (arith, h.1 q later, ltb-false p n e)
      ],
    )

    more : (n : ℕ) (o : Option ℕ) (ns : List ℕ) → IsLeast (Contains ns) o → IsLeast (Contains (n ∷ ns)) (Some (less_or n o))
    more n None ns h = (
      Contains-here ns,
      λ q m. elim (Contains-cases ns m) [
        | inl is ↦ omega (arith, is)
        | inr later ↦ absurd (h q later)
      ],
    )
    more n (Some p) ns h = pick n p ns h (nat_lt p n) refl

pub least_one : (P Q : ℕ → Type 0) → ((n : ℕ) → P n → Q n) → ((n : ℕ) → Q n → P n) → (o p : Option ℕ) → IsLeast P o → IsLeast Q p → o ≡ p
least_one P Q to back None None h k = refl
least_one P Q to back None (Some p) h k = absurd (h p (back p k.0))
least_one P Q to back (Some o) None h k = absurd (k o (to o h.0))
least_one P Q to back (Some o) (Some p) h k = ap (λ n. Some n) (omega (arith, h.1 p (back p k.0), k.1 o (to o h.0)))

shared_filter : (ns ms : List ℕ) (n : ℕ) → Contains ns n → Contains ms n → Contains (filter (is_in ms) ns) n
shared_filter ns ms n m k = in_filter (is_in ms) ns n m (is_in_of ms n k)

-- What a search for the least number of both finds.
pub shared_is : (ns ms : List ℕ) (o : Option ℕ) → IsLeastCommon ns ms o → o ≡ least_shared ns ms
shared_is ns ms o h = least_one _ (Contains (filter (is_in ms) ns))
    (λ n both. shared_filter ns ms n both.0 both.1)
    (λ n m. let r = of_filter (is_in ms) ns n m in (r.0, member_in ms n r.1))
    o (least_shared ns ms) h (number_is_least (filter (is_in ms) ns))

-- A number of both: the least of both is there, and no greater.
pub shared_at : (ns ms : List ℕ) (n : ℕ) → Contains ns n → Contains ms n → (k : ℕ) × (least_shared ns ms ≡ Some k) × (k ≤ n)
shared_at ns ms n m k = found (Contains (filter (is_in ms) ns)) (least_shared ns ms) refl (number_is_least (filter (is_in ms) ns))
    (shared_filter ns ms n m k)
  where
    found : (P : ℕ → Type 0) {n : ℕ} {l : Option ℕ} (o : Option ℕ) → l ≡ o → IsLeast P o → P n → (k : ℕ) × (l ≡ Some k) × (k ≤ n)
    found P {n = n} None e h p = absurd (h n p)
    found P {n = n} (Some k) e h p = (k, e, h.1 n p)

pub shared_in : (ns ms : List ℕ) (k : ℕ) → least_shared ns ms ≡ Some k → Contains ns k × Contains ms k
shared_in ns ms k e =
    let l : IsLeast (Contains (filter (is_in ms) ns)) (Some k) =
    subst (IsLeast (Contains (filter (is_in ms) ns))) e (number_is_least (filter (is_in ms) ns)) in
    let r = of_filter (is_in ms) ns k l.0 in
    (r.0, member_in ms k r.1)

-- ---- ascending lists

-- The least number of an ascending list is its first.
least_first : (ns : List ℕ) → IsStrictlyIncreasing ns → least_number ns ≡ slice_get ns 0
least_first [] up = refl
least_first (n ∷ ns) up = by (least_number ns) (number_is_least ns)
  where
    by : (o : Option ℕ) → IsLeast (Contains ns) o → ◌≡◌ {A = Option ℕ} (Some (less_or n o)) (Some n)
    by None h = refl
    by (Some m) h = let least : n ≤ m = first_least (n ∷ ns) up m (Contains-later ns h.0) in rw (le-ltb m n least) refl

find_first : (p : ℕ → Bool) (ns : List ℕ) → find p ns ≡ slice_get (filter p ns) 0
find_first p [] = refl
find_first p (n ∷ ns) = elim (cases_Bool (p n)) [ inl t ↦ rw t refl | inr f ↦ rw f (find_first p ns) ]

pub least_found : (ns ms : List ℕ) → IsStrictlyIncreasing ns → find (is_in ms) ns ≡ least_shared ns ms
least_found ns ms up = find_first (is_in ms) ns ∙ sym (least_first (filter (is_in ms) ns) (IsStrictlyIncreasing-filter (is_in ms) ns up))

-- It is the same from either side.
pub shared_turned : (ns ms : List ℕ) → least_shared ns ms ≡ least_shared ms ns
shared_turned ns ms = shared_is ms ns (least_shared ns ms) (turned (least_shared ns ms) (number_is_least (filter (is_in ms) ns)))
  where
    both : (n : ℕ) → Contains (filter (is_in ms) ns) n → Contains ms n × Contains ns n
    both n m = let r = of_filter (is_in ms) ns n m in (member_in ms n r.1, r.0)

    turned : (o : Option ℕ) → IsLeast (Contains (filter (is_in ms) ns)) o → IsLeastCommon ms ns o
    turned None h = λ q c. h q (shared_filter ns ms q c.1 c.0)
    turned (Some k) h = (both k h.0, λ q c. h.1 q (shared_filter ns ms q c.1 c.0))

pub none_shared : (ns : List ℕ) → ◌≡◌ {A = Option ℕ} None (least_shared ns [])
none_shared [] = refl
none_shared (n ∷ ns) = none_shared ns
