use Rattle.std.proofs.Common.{◌≡◌, length}
use Rattle.findings.specs.Texts as texts
use Rattle.findings.proofs.writing.is_chain.Given as goal

abbrev pub invariant-loop-rest : goal.invariant-loop-rest
invariant-loop-rest l = texts.is_chain l.rest ≡ texts.is_chain l.links

abbrev pub decreases-loop-rest : goal.decreases-loop-rest
decreases-loop-rest l = length l.rest
