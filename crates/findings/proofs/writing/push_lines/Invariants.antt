use Rattle.std.proofs.Common.{◌≡◌, ◌++◌, map, length}
use Rattle.findings.specs.Texts.{lines_text}
use Rattle.findings.proofs.writing.push_lines.Given as goal

abbrev pub invariant-loop-rest : goal.invariant-loop-rest
invariant-loop-rest g l = l.out.items ++ lines_text (map g.L.Listed.line l.rest) ≡ l.fn.out.items
    ++ lines_text (map g.L.Listed.line l.lines)

abbrev pub decreases-loop-rest : goal.decreases-loop-rest
decreases-loop-rest g l = length l.rest
