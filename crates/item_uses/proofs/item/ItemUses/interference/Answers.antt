use Rattle.std.proofs.Common.{sym, ◌∙◌, ap}
use Rattle.item_uses.specs.Sharing.{kind_between, place_between}
use Rattle.item_uses.proofs.lemmas.Bounded.{free_apart, none_apart, free_both}
use Rattle.item_uses.proofs.item.ItemUses.interference.Goals as goal

pub returns-else-may_interfere-clause-kind : goal.returns-else-may_interfere-clause-kind
returns-else-may_interfere-clause-kind g c =
    let free = free_apart c.self.inside.span c.other.inside.span c.self.inside.uses.items c.other.inside.uses.items c.self.invariant c.other.invariant (sym c.may_interfere.ensures ∙ c.if-may_interfere.false) in
    c.none.ensures.kind ∙ sym free ∙ ap (λ us. kind_between us c.other.inside.uses.items) c.self.view_is
    ∙ ap (kind_between c.args.self.now) c.other.view_is

pub returns-else-may_interfere-clause-place : goal.returns-else-may_interfere-clause-place
returns-else-may_interfere-clause-place g c =
    let none = none_apart c.self.inside.span c.other.inside.span c.self.inside.uses.items c.other.inside.uses.items c.self.invariant c.other.invariant (sym c.may_interfere.ensures ∙ c.if-may_interfere.false) in
    c.none.ensures.place ∙ sym none ∙ ap (λ us. place_between us c.other.inside.uses.items) c.self.view_is
    ∙ ap (place_between c.args.self.now) c.other.view_is

pub returns-then-may_interfere-clause-free : goal.returns-then-may_interfere-clause-free
returns-then-may_interfere-clause-free g c =
    let both = free_both c.deref.result.now c.deref-then-may_interfere.result.now in (
      λ free. c.interference_of_lists.ensures.place ∙ both.0 (sym c.interference_of_lists.ensures.kind ∙ free),
      λ none. c.interference_of_lists.ensures.kind ∙ both.1 (sym c.interference_of_lists.ensures.place ∙ none),
    )
