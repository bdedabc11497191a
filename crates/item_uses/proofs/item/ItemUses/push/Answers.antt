use Rattle.std.proofs.Common.{inl, inr, subst, Contains}
use Rattle.std.proofs.lemmas.List.Elements.{Contains-push_cases}
use Rattle.item_uses.specs.Spans.{IsWithin}
use Rattle.item_uses.proofs.item.ItemUses.push.Goals as goal

pub invariant_of-self : goal.invariant_of-self
invariant_of-self g c u m = c.self.invariant u (subst (λ us. Contains us u) c.in_err-push.ensures.items m)

pub invariant_of-self-2 : goal.invariant_of-self-2
invariant_of-self-2 g c u m =
    elim (Contains-push_cases c.self.inside.uses.items c.args.one u (subst (λ us. Contains us u) c.in_ok-push.ensures.items m)) [
      | inl old ↦ c.union-span.ensures.ours u (c.self.invariant u old)
      | inr is ↦ subst (IsWithin c.union-span.result) is (c.union-span.ensures.theirs c.args.one c.span.ensures)
    ]
