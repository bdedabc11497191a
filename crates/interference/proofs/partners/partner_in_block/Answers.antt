use Rattle.std.proofs.Common.{[], ap, sym, ◌∙◌}
use Rattle.std.proofs.lemmas.List.{get_or_default}
use Rattle.item_uses.specs.Usages.{usages_at}
use Rattle.item_uses.specs.Sharing.{kind_between}
use Rattle.interference.specs.Pairing.{asked_of}
use Rattle.interference.proofs.Rows.{row_to}
use Rattle.interference.proofs.partners.partner_in_block.Goals as goal

pub returns-else-may_interfere-clause-none : goal.returns-else-may_interfere-clause-none
returns-else-may_interfere-clause-none g c =
    let here = get_or_default c.args.search.now.items.now c.args.a c.index-search-a.result [] c.requires.place in
    row_to (asked_of c.args.search.now.asked) c.args.search.now.items.now c.args.a c.args.block.now.from c.args.block.now.to c.requires.end.0 c.requires.end.1
    (λ i low high. ap (λ us. kind_between us (usages_at c.args.search.now.items.now i)) (sym here)
    ∙ c.may_interfere.ensures c.if-may_interfere.false (usages_at c.args.search.now.items.now i) (c.requires.block i low high))
