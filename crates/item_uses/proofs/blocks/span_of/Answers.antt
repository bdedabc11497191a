use Rattle.std.proofs.Common.{inl, inr, arith, subst, sym, ◌∙◌, ap, Contains}
use Rattle.std.proofs.lemmas.Bool.{cases_eq}
use Rattle.item_uses.specs.Usages.{usages_at}
use Rattle.item_uses.proofs.lemmas.Positions.{at_is}
use Rattle.item_uses.proofs.blocks.span_of.Goals as goal

pub loop-i-preserved : goal.loop-i-preserved
loop-i-preserved g c j low high u m =
    elim (cases_eq j c.loop-i.i) [
      | inl same ↦
          let here = at_is c.args.items.now c.loop-i.i c.index-items-i.result
          (omega (arith, c.loop-i-test.true, c.requires)) c.index-items-i.is in
          c.union-span.ensures.theirs u (c.span.ensures u (subst (λ us. Contains us u) (ap (usages_at c.args.items.now) same ∙ sym here) m))
      | inr other ↦ c.union-span.ensures.ours u (c.loop-i.invariant j low (omega (arith, high, other)) u m)
    ]

pub returns : goal.returns
returns g c j low high u m = c.loop-i.invariant j low (omega (arith, high, c.loop-i-test.false)) u m
