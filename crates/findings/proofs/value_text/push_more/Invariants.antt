use Rattle.std.proofs.Common.{◌≡◌, ◌++◌, map, length}
use Rattle.spy_words.specs.Classes.{follow}
use Rattle.findings.specs.ValueTexts.{entry_text}
use Rattle.findings.proofs.value_text.push_more.Given as goal

abbrev pub invariant-loop-rest : goal.invariant-loop-rest
invariant-loop-rest l = l.out.items ++ follow 44 (map entry_text l.rest) ≡ l.fn.out.items ++ follow 44 (map entry_text l.entries)

abbrev pub decreases-loop-rest : goal.decreases-loop-rest
decreases-loop-rest l = length l.rest
