-- Numbers that lists contain, by test.
use Rattle.std.proofs.Common.{◌≡◌, ℕ, true, List, Contains, refl, subst, ◌==◌}
use Rattle.std.proofs.lemmas.Bool.{eq-eqb, eqb-true}
use Rattle.list_lemmas.proofs.lemmas.Contained.{any_at, any_found}
use Rattle.vocabulary.specs.Prelude.{is_in, meets}

pub is_in_of : (ns : List ℕ) (n : ℕ) → Contains ns n → is_in ns n ≡ true
is_in_of ns n m = any_at (λ k. k == n) ns n m (eq-eqb n n refl)

pub member_in : (ns : List ℕ) (n : ℕ) → is_in ns n ≡ true → Contains ns n
member_in ns n e = let r = any_found (λ k. k == n) ns e in subst (Contains ns) (eqb-true r.0 n r.2) r.1

pub meets_of : (ns ms : List ℕ) (n : ℕ) → Contains ns n → Contains ms n → meets ns ms ≡ true
meets_of ns ms n a b = any_at (is_in ms) ns n a (is_in_of ms n b)
