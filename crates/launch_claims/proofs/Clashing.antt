-- What it is that two claims clash.
use Rattle.std.proofs.Common.{◌≡◌, ◌≢◌, ◌≤◌, max, min, true, false, IsTrue, refl, sym, ap, subst, ◌∙◌, inl, inr, arith}
use Rattle.std.proofs.lemmas.Bool.{and_parts, and_from, eqb-true, eqb-false, eq-eqb, ne_eqb, leb-true, le-leb, not-true, not_from_false, cases_Bool}
use Rattle.privilege.specs.declared.kinds.Priv.{Priv}
use Rattle.privilege.specs.declared.kinds.Priv.TheVariants.{Ro, Rw, Wd, Red}
use Rattle.privilege.specs.Interference.{agree}
use Rattle.launch_claims.specs.declared.claim.Claim.{Claim}
use Rattle.launch_claims.specs.Claims.{share_field, share_point, clashes}

-- two privileges that agree are one
pub agree_same : (p q : Priv) → agree p q ≡ true → p ≡ q
agree_same Ro Ro e = refl
agree_same Ro Rw e = absurd cc
agree_same Ro Wd e = absurd cc
agree_same Ro (Red s) e = absurd cc
agree_same Rw q e = absurd cc
agree_same Wd q e = absurd cc
agree_same (Red r) Ro e = absurd cc
agree_same (Red r) Rw e = absurd cc
agree_same (Red r) Wd e = absurd cc
agree_same (Red r) (Red s) e = ap (λ op. Red op) (eqb-true r s e)

pub agree_back : (p q : Priv) → agree p q ≡ true → agree q p ≡ true
agree_back p q e = let same = agree_same p q e in subst (λ x. agree x p ≡ true) same (subst (λ x. agree p x ≡ true) (sym same) e)

pub disagree_back : (p q : Priv) → agree p q ≡ false → agree q p ≡ false
disagree_back p q e = elim (cases_Bool (agree q p)) [
  | inl agrees ↦ let told = agree_back q p agrees in absurd cc
  | inr apart ↦ apart
]

-- two claims of one field
pub record OneField (c d : Claim) : Type 0 where
  pub tree : c.tree ≡ d.tree
  pub field : c.field ≡ d.field

pub one_field : (c d : Claim) → IsTrue (share_field c d) → OneField c d
one_field c d h =
    let both = and_parts _ _ h in
    record { tree = eqb-true c.tree d.tree both.0; field = eqb-true c.field d.field both.1 }

pub share_from : (c d : Claim) → OneField c d → IsTrue (share_field c d)
share_from c d h = and_from _ _ (eq-eqb c.tree d.tree h.tree) (eq-eqb c.field d.field h.field)

pub share_back : (c d : Claim) → IsTrue (share_field c d) → IsTrue (share_field d c)
share_back c d h = let o = one_field c d h in share_from d c (record { tree = sym o.tree; field = sym o.field })

pub share_also : (b c d : Claim) → IsTrue (share_field b c) → IsTrue (share_field c d) → IsTrue (share_field b d)
share_also b c d h k =
    let o = one_field b c h in
    let p = one_field c d k in
    share_from b d (record { tree = o.tree ∙ p.tree; field = o.field ∙ p.field })

pub share_same : (c : Claim) → IsTrue (share_field c c)
share_same c = share_from c c (record { tree = refl; field = refl })

-- the parts of a clash
pub record Clash (c d : Claim) : Type 0 where
  pub field : IsTrue (share_field c d)
  pub points : max c.first d.first ≤ min c.last d.last
  pub tasks : c.task ≢ d.task
  pub accesses : agree c.access d.access ≡ false

pub clash_told : (c d : Claim) → IsTrue (clashes c d) → Clash c d
clash_told c d h =
    let one = and_parts (share_field c d) _ h in
    let two = and_parts (share_point c d) _ one.1 in
    let three = and_parts _ _ two.1 in
    record {
      field = one.0;
      points = leb-true (max c.first d.first) (min c.last d.last) two.0;
      tasks = eqb-false c.task d.task (not-true _ three.0);
      accesses = not-true _ three.1;
    }

pub clash_from : (c d : Claim) → Clash c d → IsTrue (clashes c d)
clash_from c d h =
    and_from (share_field c d) _ h.field
    (and_from (share_point c d) _ (le-leb (max c.first d.first) (min c.last d.last) h.points)
    (and_from _ _ (not_from_false _ (ne_eqb c.task d.task h.tasks)) (not_from_false _ h.accesses)))

pub clash_back : (c d : Claim) → Clash c d → Clash d c
clash_back c d h = record {
  field = share_back c d h.field;
  points = omega (arith, h.points);
  tasks = λ e. h.tasks (sym e);
  accesses = disagree_back c.access d.access h.accesses;
}
