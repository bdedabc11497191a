use Rattle.std.proofs.Common.{map, length}
use Rattle.std.specs.List.{AllByRecursion}
use Rattle.findings.specs.Texts.{Fits}
use Rattle.findings.proofs.writing.lines_fit.Given as goal

abbrev pub invariant-loop-rest : goal.invariant-loop-rest
invariant-loop-rest g l = AllByRecursion Fits (map g.L.Listed.line l.rest) → AllByRecursion Fits (map g.L.Listed.line l.lines)

abbrev pub decreases-loop-rest : goal.decreases-loop-rest
decreases-loop-rest g l = length l.rest
