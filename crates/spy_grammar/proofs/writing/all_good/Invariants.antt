use Rattle.std.proofs.Common.{◌↔◌, length}
use Rattle.std.specs.List.{AllByRecursion}
use Rattle.spy_grammar.specs.Cells.{items_in}
use Rattle.spy_grammar.specs.Spelling.{IsGoodItem}
use Rattle.spy_grammar.proofs.writing.all_good.Given as goal

abbrev pub invariant-loop-rest : goal.invariant-loop-rest
invariant-loop-rest l = AllByRecursion IsGoodItem (items_in l.rest) ↔ AllByRecursion IsGoodItem (items_in l.cells)

abbrev pub decreases-loop-rest : goal.decreases-loop-rest
decreases-loop-rest l = length l.rest
