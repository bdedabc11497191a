-- Privileges that agree.
use Rattle.std.proofs.Common.{◌≡◌, true, refl, ap, ◌∙◌}
use Rattle.std.proofs.lemmas.Bool.{eqb-true}
use Rattle.vocabulary.specs.Prelude.{Priv, agree}
use Rattle.privilege.specs.declared.kinds.Priv.TheVariants.{Ro, Rw, Wd, Red}

-- Two that agree are one.
pub agree_same : (p q : Priv) → agree p q ≡ true → p ≡ q
agree_same Ro Ro e = refl
agree_same Ro Rw e = absurd cc
agree_same Ro Wd e = absurd cc
agree_same Ro (Red s) e = absurd cc
agree_same Rw q e = absurd cc
agree_same Wd q e = absurd cc
agree_same (Red r) Ro e = absurd cc
agree_same (Red r) Rw e = absurd cc
agree_same (Red r) Wd e = absurd cc
agree_same (Red r) (Red s) e = ap (λ op. Red op) (eqb-true r s e)

pub agree_also : (p q r : Priv) → agree p q ≡ true → agree q r ≡ true → agree p r ≡ true
agree_also p q r a b = ap (λ x. agree x r) (agree_same p q a) ∙ b
