-- The order in which claims are sorted.
use Rattle.std.proofs.Common.{Less, Equal, Greater, ◌≡◌, ℕ, ◌≤◌, false, List, get_or, refl, ap, subst, ◌∙◌, arith}
use Rattle.std.specs.declared.cmp.Ordering.{Ordering}
use Rattle.std.specs.Ordering.{nat_cmp, ordering_then, is_lt}
use Rattle.std.specs.List.Sorted.{IsSortedByKey}
use Rattle.std.proofs.lemmas.Cmp.{ranked, nat_cmp_total, on_total, then_total, tied_itself}
use Rattle.std.proofs.lemmas.List.Sorted.{sorted_far, ranks_by}
use Rattle.launch_claims.specs.declared.claim.Claim.{Claim}
use Rattle.launch_claims.specs.Reaches.{IsBefore, AreInOrder}
use Rattle.launch_claims.proofs.Clashing.{one_field}

-- what the sort compares
abbrev pub Key : Type 0
Key = ℕ × ℕ × ℕ

abbrev pub key_of : Claim → Key
key_of c = (c.tree, c.field, c.first)

abbrev pub key_cmp : Key → Key → Ordering
key_cmp x y = ordering_then (ordering_then (nat_cmp x.0 y.0) (nat_cmp x.1 y.1)) (nat_cmp x.2 y.2)

then_not_less : (o p : Ordering) → is_lt (ordering_then o p) ≡ false → (is_lt o ≡ false) × (o ≡ Equal → is_lt p ≡ false)
then_not_less Less p h = absurd (let none : ⊥ = cc in none)
then_not_less Equal p h = (refl, λ e. h)
then_not_less Greater p h = (refl, λ e. absurd (let none : ⊥ = cc in none))

not_below : (a b : ℕ) (o : Ordering) → o ≡ nat_cmp b a → is_lt o ≡ false → a ≤ b
not_below a b Less e h = absurd (let none : ⊥ = cc in none)
not_below a b Equal e h = omega (arith, ranked b a Equal e)
not_below a b Greater e h = let lt = ranked b a Greater e in omega (arith, lt)

tied : (a b : ℕ) → a ≡ b → nat_cmp b a ≡ Equal
tied a b e = subst (λ n. nat_cmp n a ≡ Equal) e (tied_itself nat_cmp_total a)

then_tied : (o p : Ordering) → o ≡ Equal → p ≡ Equal → ordering_then o p ≡ Equal
then_tied o p e f = ap (λ q. ordering_then q p) e ∙ f

pub not_less : (c d : Claim) → is_lt (key_cmp (key_of d) (key_of c)) ≡ false → IsBefore c d
not_less c d h =
    let t = nat_cmp d.tree c.tree in
    let f = nat_cmp d.field c.field in
    let two = then_not_less (ordering_then t f) (nat_cmp d.first c.first) h in
    let one = then_not_less t f two.0 in
    record {
      fields = record {
        tree = not_below c.tree d.tree t refl one.0;
        field = λ e. not_below c.field d.field f refl (one.1 (tied c.tree d.tree e));
      };
      points = λ share.
          let o = one_field c d share in
          not_below c.first d.first (nat_cmp d.first c.first) refl
          (two.1 (then_tied t f (tied c.tree d.tree o.tree) (tied c.field d.field o.field)));
    }

pub in_order : (claims : List Claim) → IsSortedByKey key_of key_cmp claims → AreInOrder claims
in_order claims up i j d lt within =
    let total = then_total (then_total (on_total (λ (t : Key). t.0) nat_cmp_total) (on_total (λ (t : Key). t.1) nat_cmp_total))
    (on_total (λ (t : Key). t.2) nat_cmp_total) in
    not_less (get_or claims i d) (get_or claims j d)
    (sorted_far (λ (x : Claim) (y : Claim). is_lt (key_cmp (key_of x) (key_of y))) (ranks_by total key_of) claims up i j d
    (omega arith) within)
