use Rattle.std.proofs.Common.{◌≡◌, map, take}
use Rattle.log_decl.proofs.records.lines_of.Given as goal

abbrev pub invariant-loop-l : goal.invariant-loop-l
invariant-loop-l l = l.lines.items ≡ map (λ r. r.line) (take l.l-index l.records)
