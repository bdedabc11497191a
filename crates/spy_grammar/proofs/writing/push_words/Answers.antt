use Rattle.std.proofs.Common.{ap, ◌∙◌, ◌++◌, []}
use Rattle.spy_words.specs.Classes.{follow}
use Rattle.spy_grammar.specs.Cells.{with_cell}
use Rattle.spy_grammar.specs.Spelling.{words_in}
use Rattle.spy_grammar.proofs.CellLaws.{cell_written}
use Rattle.spy_grammar.proofs.writing.push_words.Goals as goal

pub loop-rest-preserved : goal.loop-rest-preserved
loop-rest-preserved c = cell_written _ _ _ c.loop-rest.rest.now _ c.in-len1-up.len_at_least c.loop-rest.invariant (c.in_ok-push_word.ensures
    ∙ ap (λ cell. c.loop-rest.out.items ++ follow 32 (words_in (with_cell cell []))) c.cell-item.is)
