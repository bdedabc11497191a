use Rattle.std.proofs.Common.{[], get_or, sym, ◌∙◌, ap}
use Rattle.std.proofs.lemmas.List.{get_or_default}
use Rattle.item_uses.specs.Usages.{usages_at}
use Rattle.item_uses.specs.Sharing.{kind_between}
use Rattle.interference.specs.Pairing.{asked_of}
use Rattle.interference.proofs.Rows.{free_not_met}
use Rattle.interference.proofs.Answering.{none_met, some_met}
use Rattle.interference.proofs.partners.pair_of.Goals as goal

pub returns-clause-none : goal.returns-clause-none
returns-clause-none g c =
    none_met (asked_of c.args.search.now.asked) c.args.search.now.items.now c.args.a c.args.b c.interference-found.result c.pair_with.result c.interference-found.ensures.found c.pair_with.ensures

pub returns-clause-some : goal.returns-clause-some
returns-clause-some g c =
    some_met (asked_of c.args.search.now.asked) c.args.search.now.items.now c.args.a c.args.b c.interference-found.result c.pair_with.result
    (sym c.is_asked.ensures ∙ c.if-not-is_asked.false) c.interference-found.ensures.found c.pair_with.ensures

pub returns-then-not-may_interfere-clause-none : goal.returns-then-not-may_interfere-clause-none
returns-then-not-may_interfere-clause-none g c =
    let items = c.args.search.now.items.now in
    let here = get_or_default items c.args.a c.index-search-a.result [] c.requires.a in
    let there = get_or_default items c.args.b c.index-search-b.result [] c.requires.b in
    let ours = get_or items c.args.a c.index-search-a.result in
    free_not_met (asked_of c.args.search.now.asked) items c.args.a c.args.b
    (ap (λ us. kind_between us (usages_at items c.args.b)) (sym here) ∙ ap (kind_between ours) (sym there)
    ∙ c.may_interfere.ensures c.if-not-may_interfere.true (get_or items c.args.b c.index-search-b.result) c.span.ensures)
