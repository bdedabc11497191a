-- Counting into bags. The laws hold of every list, in order or not, but for the last, by which a bag is its counts.
use Rattle.std.proofs.Common.{◌≡◌, ℕ, ◌+◌, ◌≤◌, inl, inr, true, false, [], ◌∷◌, if◌then◌else◌, refl, ap, sym, ◌∙◌, arith}
use Rattle.std.specs.List.{AllByRecursion}
use Rattle.value_terms.specs.declared.terms.Contribution.{Contribution}
use Rattle.value_terms.specs.Values.{Bag, same_contribution, comes_before, count_in, counted, joined, Ascends, IsWellFormedBag}
use Rattle.value_terms.proofs.lemmas.Order.{Below, compared, before_trans, before_differ, same_decides}

pub pair_path : {c d : Contribution} {n m : ℕ} → c ≡ d → n ≡ m → ◌≡◌ {A = Contribution × ℕ} (c, n) (d, m)
pair_path p q = λ i. (p i, q i)

pub counted_none : (c : Contribution) (n : ℕ) → counted c n [] ≡ (c, n) ∷ []
unfolding counted
counted_none c n = refl

pub counted_same : (c : Contribution) (n : ℕ) (e : Contribution × ℕ) (bag : Bag) → same_contribution c e.0 ≡ true
    → counted c n (e ∷ bag) ≡ (e.0, e.1 + n) ∷ bag
unfolding counted
counted_same c n e bag h = rw h

pub counted_here : (c : Contribution) (n : ℕ) (e : Contribution × ℕ) (bag : Bag) → same_contribution c e.0 ≡ false
    → comes_before c e.0 ≡ true → counted c n (e ∷ bag) ≡ (c, n) ∷ e ∷ bag
unfolding counted
counted_here c n e bag h g = rw (h, g)

pub counted_later : (c : Contribution) (n : ℕ) (e : Contribution × ℕ) (bag : Bag) → same_contribution c e.0 ≡ false
    → comes_before c e.0 ≡ false → counted c n (e ∷ bag) ≡ e ∷ counted c n bag
unfolding counted
counted_later c n e bag h g = rw (h, g)

pub ruleset counts = (counted_none, counted_same, counted_here, counted_later)

counted_counted : (c d : Contribution) (n m : ℕ) (bag : Bag) → counted c n (counted d m bag) ≡ counted d m (counted c n bag)
counted_counted c d n m [] = grind (arith, counts, pair_path, compared c d)
counted_counted c d n m (e ∷ bag) = grind (
  arith,
  counts,
  pair_path,
  before_trans,
  compared c d,
  compared c e.0,
  compared d e.0,
  counted_counted c d n m bag,
)

pub joined_counted : (a b : Bag) (c : Contribution) (n : ℕ) → joined (counted c n a) b ≡ counted c n (joined a b)
unfolding joined
joined_counted a [] c n = refl
joined_counted a (e ∷ b) c n = ap (λ w. joined w b) (counted_counted e.0 c e.1 n a) ∙ joined_counted (counted e.0 e.1 a) b c n

-- Two bags may be joined to a third in either order.
pub joined_joined : (g a b : Bag) → joined (joined g a) b ≡ joined (joined g b) a
unfolding joined
joined_joined g [] b = refl
joined_joined g (e ∷ a) b = joined_joined (counted e.0 e.1 g) a b ∙ ap (λ w. joined w a) (joined_counted g b e.0 e.1)

count_counted : (d c : Contribution) (n : ℕ) (bag : Bag)
    → count_in d (counted c n bag) ≡ (if same_contribution d c then n else 0) + count_in d bag
unfolding count_in
count_counted d c n [] = rw counted_none
count_counted d c n (e ∷ bag) = grind (arith, counts, compared c e.0, count_counted d c n bag)

pub count_joined : (d : Contribution) (a b : Bag) → count_in d (joined a b) ≡ count_in d a + count_in d b
unfolding joined count_in
count_joined d a [] = grind arith
count_joined d a (e ∷ b) = grind (arith, count_counted, count_joined d (counted e.0 e.1 a) b)

pub all_after : (c d : Contribution) (bag : Bag) → comes_before c d ≡ true → AllByRecursion (λ f. comes_before d f.0 ≡ true) bag
    → AllByRecursion (λ f. comes_before c f.0 ≡ true) bag
all_after c d [] h hs = tt
all_after c d (e ∷ bag) h hs = (before_trans c d e.0 h hs.0, all_after c d bag h hs.1)

pub absent : (c : Contribution) (bag : Bag) → AllByRecursion (λ f. comes_before c f.0 ≡ true) bag → count_in c bag ≡ 0
unfolding count_in
absent c [] h = refl
absent c (e ∷ bag) h = grind (arith, (before_differ c e.0 h.0).0, absent c bag h.1)

below_absent : (c : Contribution) (e : Contribution × ℕ) (bag : Bag) → Below c e.0 → Ascends (e ∷ bag) → count_in c (e ∷ bag) ≡ 0
below_absent c e bag b h = absent c (e ∷ bag) (b.before, all_after c e.0 bag b.before h.0)

first_there : (e : Contribution × ℕ) (bag : Bag) → 1 ≤ e.1 → count_in e.0 (e ∷ bag) ≡ 0 → ⊥
unfolding count_in
first_there e bag h is = grind (arith, (same_decides e.0 e.0).1 refl)

same_first : (e f : Contribution × ℕ) (a b : Bag) → Ascends (e ∷ a) → Ascends (f ∷ b) → count_in e.0 (e ∷ a) ≡ count_in e.0 (f ∷ b)
    → e.0 ≡ f.0 → e.1 ≡ f.1
unfolding count_in
same_first e f a b x y h first = grind (arith, (same_decides e.0 e.0).1 refl, absent e.0 a x.0, absent f.0 b y.0)

same_rest : (e f : Contribution × ℕ) (a b : Bag) (c : Contribution) → e.0 ≡ f.0 → e.1 ≡ f.1 → count_in c (e ∷ a) ≡ count_in c (f ∷ b)
    → count_in c a ≡ count_in c b
unfolding count_in
same_rest e f a b c first count h = grind arith

pub rest_of : {e : Contribution × ℕ} {bag : Bag} → IsWellFormedBag (e ∷ bag) → IsWellFormedBag bag
rest_of x = record { counts = x.counts.1; ascends = x.ascends.1 }

-- Bags with the same counts are one.
pub equal_by_counts : (a b : Bag) → IsWellFormedBag a → IsWellFormedBag b → ((c : Contribution) → count_in c a ≡ count_in c b) → a ≡ b
unfolding count_in
equal_by_counts [] [] x y h = refl
equal_by_counts [] (f ∷ b) x y h = absurd (first_there f b y.counts.0 (sym (h f.0)))
equal_by_counts (e ∷ a) [] x y h = absurd (first_there e a x.counts.0 (h e.0))
equal_by_counts (e ∷ a) (f ∷ b) x y h = elim (compared e.0 f.0) [
  | inl s ↦
      let count : e.1 ≡ f.1 = same_first e f a b x.ascends y.ascends (h e.0) s.equal in
      let rest : a ≡ b = equal_by_counts a b (rest_of x) (rest_of y) (λ c. same_rest e f a b c s.equal count (h c)) in
      λ i. pair_path s.equal count i ∷ rest i
  | inr (inl lower) ↦ absurd (first_there e a x.counts.0 (h e.0 ∙ below_absent e.0 f b lower y.ascends))
  | inr (inr lower) ↦ absurd (first_there f b y.counts.0 (sym (h f.0) ∙ below_absent f.0 e a lower x.ascends))
]
