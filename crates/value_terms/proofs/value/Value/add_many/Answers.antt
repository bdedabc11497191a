use Rattle.std.proofs.Common.{[], ◌∷◌, sym, ap, ◌∙◌, arith}
use Rattle.value_terms.specs.Values.{weight_of}
use Rattle.value_terms.proofs.Held.{added_told, added_held, raw_stays}
use Rattle.value_terms.proofs.value.Value.add_many.Goals as goal

pub returns-then-is_raw-clause-ok : goal.returns-then-is_raw-clause-ok
returns-then-is_raw-clause-ok c = raw_stays _ _ _ _ _ c.self.view_is (sym c.is_raw.ensures ∙ c.if-is_raw.true)

pub invariant_of-self-2 : goal.invariant_of-self-2
invariant_of-self-2 c =
    let weighs = ap weight_of c.self.view_is in
    added_held c.args.op ((c.args.c, c.args.n) ∷ []) _ c.self.inside.groups.items _ c.self.inside.weight c.args.n c.self.invariant
    (sym c.is_raw.ensures ∙ c.if-is_raw.false) (λ e. cc e) (omega arith) (((omega arith, omega arith)), tt) (c.requires.some, tt)
    (omega arith) (omega (arith, weighs, c.requires.fits)) c.in_ok-add_to.ensures.ok

pub returns-clause-ok : goal.returns-clause-ok
returns-clause-ok c =
    added_told c.args.op _ _ _ _ _ c.self.view_is (sym c.is_raw.ensures ∙ c.if-is_raw.false) (λ e. cc e) c.in_ok-add_to.ensures.ok
