use Rattle.std.proofs.Common.{◌≡◌, ◌++◌, length}
use Rattle.findings.specs.Cells.{words_in}
use Rattle.findings.specs.Texts.{row_text}
use Rattle.findings.proofs.writing.push_row.Given as goal

abbrev pub invariant-loop-rest : goal.invariant-loop-rest
invariant-loop-rest l = l.out.items ++ row_text (words_in l.rest) ≡ l.fn.out.items ++ row_text (words_in l.row)

abbrev pub decreases-loop-rest : goal.decreases-loop-rest
decreases-loop-rest l = length l.rest
