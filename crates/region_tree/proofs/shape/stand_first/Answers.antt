use Rattle.std.proofs.Common.{Some, refl, sym, ap, subst, ◌∙◌, arith, below_more}
use Rattle.std.specs.Fn.{FnReturnsAt}
use Rattle.std.proofs.lemmas.Fn.{says_at}
use Rattle.std.proofs.lemmas.Option.{slice_get-get_or, slice_get_within, same_Some}
use Rattle.region_tree.proofs.Distinct.{same_told, other_told}
use Rattle.region_tree.proofs.shape.stand_first.Goals as goal

pub returns-then-ne : goal.returns-then-ne
returns-then-ne g c =
    let at = slice_get-get_or c.args.items.now c.loop-i.i c.index-items-i.result (omega (arith, c.loop-i-test.true))
    ∙ ap (λ x. Some x) (sym c.index-items-i.is) in (
      c.loop-i.i,
      c.index-items-i.result,
      c.first_place.result,
      at,
      says_at g.F.Fn c.first_place.ensures refl,
      other_told _ _ c.ne.result c.ne.ensures c.if-ne.true,
    )

pub loop-i-preserved : goal.loop-i-preserved
loop-i-preserved g c =
    let at = slice_get-get_or c.args.items.now c.loop-i.i c.index-items-i.result (omega (arith, c.loop-i-test.true))
    ∙ ap (λ x. Some x) (sym c.index-items-i.is) in
    let here : FnReturnsAt g.F.Fn c.args.first_place c.index-items-i.result (Some c.loop-i.i) =
    says_at g.F.Fn c.first_place.ensures (same_told _ _ c.ne.result c.ne.ensures c.if-ne.false) in
    below_more _ _ c.loop-i.invariant (λ x at_x. subst (λ y. FnReturnsAt g.F.Fn c.args.first_place y (Some c.loop-i.i))
    (same_Some _ _ (sym at ∙ at_x)) here)

pub returns : goal.returns
returns g c = λ i x at. c.loop-i.invariant i (omega (arith, slice_get_within c.args.items.now i x at, c.loop-i-test.false)) x at
