use Rattle.std.proofs.Common.{sym, ◌∙◌, ap}
use Rattle.item_uses.specs.Sharing.{kind_between}
use Rattle.item_uses.proofs.lemmas.Bounded.{free_apart}
use Rattle.item_uses.proofs.item.ItemUses.may_interfere.Goals as goal

pub returns : goal.returns
returns g c e us b = sym (ap (λ vs. kind_between vs us) c.self.view_is)
    ∙ free_apart c.self.inside.span c.args.bounds.now c.self.inside.uses.items us c.self.invariant b (sym c.may_interfere.ensures ∙ e)
