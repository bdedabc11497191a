use Rattle.std.proofs.Common.{◌≡◌, ◌++◌, length}
use Rattle.spy_words.specs.Classes.{follow}
use Rattle.spy_grammar.specs.Cells.{items_in}
use Rattle.spy_grammar.specs.Spelling.{words_in}
use Rattle.spy_grammar.proofs.writing.push_words.Given as goal

abbrev pub invariant-loop-rest : goal.invariant-loop-rest
invariant-loop-rest l = l.out.items ++ follow 32 (words_in (items_in l.rest)) ≡ l.fn.out.items ++ follow 32 (words_in (items_in l.cells))

abbrev pub decreases-loop-rest : goal.decreases-loop-rest
decreases-loop-rest l = length l.rest
