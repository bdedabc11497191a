-- The test of values tells whether they are equal.
use Rattle.std.proofs.Common.{◌≡◌, ℕ, ◌&&◌, ◌==◌, refl, ap}
use Rattle.std.specs.Bool.{Decides}
use Rattle.std.specs.Cmp.Lexicographic.{pointwise, pointwise_decides}
use Rattle.std.proofs.lemmas.Bool.Decides.{Decides-and, Decides-like, Decides-eqb}
use Rattle.value_terms.specs.declared.terms.Base.{Base}
use Rattle.value_terms.specs.declared.terms.Base.TheVariants.{Raw, Init, Ident, Const, Out}
use Rattle.value_terms.specs.declared.terms.Contribution.{Contribution}
use Rattle.value_terms.specs.declared.bag.Group.{Group}
use Rattle.value_terms.specs.Values.{Value, same_contribution, same_base, same_bag, same_value}
use Rattle.value_terms.proofs.lemmas.Order.{same_decides}

base_decides : (a b : Base) → Decides (same_base a b) (a ≡ b)
base_decides Raw Raw = (λ _. refl, λ _. refl)
base_decides Init Init = (λ _. refl, λ _. refl)
base_decides Ident Ident = (λ _. refl, λ _. refl)
base_decides (Const n) (Const m) = Decides-like (n == m) (ap (λ k. Const k)) (λ (e : Const n ≡ Const m). cc e) (Decides-eqb n m)
base_decides (Out t) (Out u) = Decides-like (t == u) (ap (λ k. Out k)) (λ (e : Out t ≡ Out u). cc e) (Decides-eqb t u)
base_decides a b = (λ h. cc h, λ h. cc h)

entry_decides : (e f : Contribution × ℕ) → Decides (same_contribution e.0 f.0 && e.1 == f.1) (e ≡ f)
entry_decides e f =
    Decides-like (same_contribution e.0 f.0 && e.1 == f.1)
    (λ (p : (e.0 ≡ f.0) × (e.1 ≡ f.1)). λ i. (p.0 i, p.1 i))
    (λ (q : e ≡ f). (ap (λ (x : Contribution × ℕ). x.0) q, ap (λ (x : Contribution × ℕ). x.1) q))
    (Decides-and (same_contribution e.0 f.0) (e.1 == f.1) (same_decides e.0 f.0) (Decides-eqb e.1 f.1))

group_decides : (g h : Group) → Decides (g.op == h.op && same_bag g.bag h.bag) (g ≡ h)
group_decides g h =
    Decides-like (g.op == h.op && same_bag g.bag h.bag)
    (λ (p : (g.op ≡ h.op) × (g.bag ≡ h.bag)). λ i. record { op = p.0 i; bag = p.1 i })
    (λ (e : g ≡ h). (ap (λ (x : Group). x.op) e, ap (λ (x : Group). x.bag) e))
    (Decides-and (g.op == h.op) (same_bag g.bag h.bag) (Decides-eqb g.op h.op) (pointwise_decides entry_decides g.bag h.bag))

pub value_decides : (v w : Value) → Decides (same_value v w) (v ≡ w)
unfolding same_value
value_decides v w =
    Decides-like (same_value v w)
    (λ (p : (v.base ≡ w.base) × (v.groups ≡ w.groups)). λ i. record { base = p.0 i; groups = p.1 i })
    (λ (e : v ≡ w). (ap (λ (x : Value). x.base) e, ap (λ (x : Value). x.groups) e))
    (Decides-and (same_base v.base w.base) (pointwise (λ (g h : Group). g.op == h.op && same_bag g.bag h.bag) v.groups w.groups)
    (base_decides v.base w.base) (pointwise_decides group_decides v.groups w.groups))
