use Rattle.std.proofs.Common.{List, subst, ◌↔◌, IsTrue}
use Rattle.std.specs.List.{AllByRecursion}
use Rattle.spy_grammar.specs.Cells.{parts_items}
use Rattle.spy_grammar.specs.Spelling.{Item, IsGoodItem}
use Rattle.spy_grammar.proofs.writing.good.Goals as goal

pub returns : goal.returns
unfolding parts_items
returns c = subst (λ (is : List Item). IsTrue c.all_good.result ↔ AllByRecursion IsGoodItem is) c.cells_of.ensures.items c.all_good.ensures
