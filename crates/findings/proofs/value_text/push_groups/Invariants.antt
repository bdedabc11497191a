use Rattle.std.proofs.Common.{◌≡◌, ◌++◌, map, length}
use Rattle.spy_words.specs.Classes.{follow}
use Rattle.findings.specs.ValueTexts.{group_text}
use Rattle.findings.proofs.value_text.push_groups.Given as goal

abbrev pub invariant-loop-rest : goal.invariant-loop-rest
invariant-loop-rest l = l.out.items ++ follow 43 (map group_text l.rest) ≡ l.fn.out.items ++ follow 43 (map group_text l.groups)

abbrev pub decreases-loop-rest : goal.decreases-loop-rest
decreases-loop-rest l = length l.rest
