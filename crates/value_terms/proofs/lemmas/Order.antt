-- Contributions are in a strict order.
use Rattle.std.proofs.Common.{◌≡◌, ◌⊎◌, inl, inr, Bool, true, false, ◌&&◌, ◌==◌, refl, ap, sym, arith}
use Rattle.std.specs.Bool.{Decides}
use Rattle.std.proofs.lemmas.Bool.Decides.{Decides-and, Decides-like, Decides-eqb, nat_tests}
use Rattle.value_terms.specs.declared.terms.Contribution.{Contribution}
use Rattle.value_terms.specs.Values.{same_contribution, comes_before}

pub same_decides : (c d : Contribution) → Decides (same_contribution c d) (c ≡ d)
unfolding same_contribution
same_decides c d =
    Decides-like (c.task == d.task && c.req == d.req)
    (λ (p : (c.task ≡ d.task) × (c.req ≡ d.req)). λ i. record { task = p.0 i; req = p.1 i })
    (λ (e : c ≡ d). (ap (λ (x : Contribution). x.task) e, ap (λ (x : Contribution). x.req) e))
    (Decides-and (c.task == d.task) (c.req == d.req) (Decides-eqb c.task d.task) (Decides-eqb c.req d.req))

pub before_trans : (c d e : Contribution) → comes_before c d ≡ true → comes_before d e ≡ true → comes_before c e ≡ true
unfolding comes_before
before_trans c d e p q = grind (arith, nat_tests)

pub before_differ : (c d : Contribution) → comes_before c d ≡ true → (same_contribution c d ≡ false) × (same_contribution d c ≡ false)
unfolding same_contribution comes_before
before_differ c d h = (grind (arith, nat_tests), grind (arith, nat_tests))

before_back : (c d : Contribution) → comes_before c d ≡ true → comes_before d c ≡ false
unfolding comes_before
before_back c d h = grind (arith, nat_tests)

one_before : (c d : Contribution) → same_contribution c d ≡ false → comes_before c d ≡ false → comes_before d c ≡ true
unfolding same_contribution comes_before
one_before c d p q = grind (arith, nat_tests)

-- What the tests say of two contributions that are one.
pub record Same (c d : Contribution) : Type 0 where
  pub equal : c ≡ d
  pub same : same_contribution c d ≡ true
  pub same_too : same_contribution d c ≡ true

-- What they say of two of which the first comes before the second.
pub record Below (c d : Contribution) : Type 0 where
  pub differ : same_contribution c d ≡ false
  pub differ_too : same_contribution d c ≡ false
  pub before : comes_before c d ≡ true
  pub not_after : comes_before d c ≡ false

pub below : (c d : Contribution) → comes_before c d ≡ true → Below c d
below c d h = record { differ = (before_differ c d h).0; differ_too = (before_differ c d h).1; before = h; not_after = before_back c d h }

pub compared : (c d : Contribution) → Same c d ⊎ (Below c d ⊎ Below d c)
compared c d = by_tests (same_contribution c d) refl (comes_before c d) refl where
  by_tests : (s : Bool) → same_contribution c d ≡ s → (b : Bool) → comes_before c d ≡ b → Same c d ⊎ (Below c d ⊎ Below d c)
  by_tests true s b t = let equal = (same_decides c d).0 s in
      inl (record { equal = equal; same = s; same_too = (same_decides d c).1 (sym equal) })
  by_tests false s true t = inr (inl (below c d t))
  by_tests false s false t = inr (inr (below d c (one_before c d s t)))
