use Rattle.std.proofs.Common.{sym, ◌∙◌, refl, arith}
use Rattle.region_tree.proofs.lemmas.Climbs.{ancestor_more, at_most}
use Rattle.region_tree.proofs.shape.is_shallow.Goals as goal

pub loop-up-preserved : goal.loop-up-preserved
loop-up-preserved g c = ancestor_more c.args.decls.now c.loop-up._up c.args.space c.loop-up.at c.loop-up.invariant ∙ sym c.parent.ensures
    ∙ c.in-Some.is

pub returns-in-None : goal.returns-in-None
returns-in-None g c =
    let top = ancestor_more c.args.decls.now c.loop-up._up c.args.space c.loop-up.at c.loop-up.invariant ∙ sym c.parent.ensures
    ∙ c.in-None.is in
    (λ _ root m e. omega (arith, at_most c.args.decls.now c.loop-up._up c.args.space top root m e, c.loop-up-test.true), λ _. refl)

pub returns : goal.returns
returns g c = (
  λ no. absurd (let e : ⊥ = cc in e),
  λ shallow. absurd (omega (arith, shallow c.loop-up.at c.loop-up._up c.loop-up.invariant, c.loop-up-test.false)),
)
