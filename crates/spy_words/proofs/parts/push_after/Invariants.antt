use Rattle.std.proofs.Common.{◌≡◌, ◌++◌, map, length}
use Rattle.spy_words.specs.Classes.{follow}
use Rattle.spy_words.proofs.parts.push_after.Given as goal

abbrev pub invariant-loop-rest : goal.invariant-loop-rest
invariant-loop-rest g l = l.out.items ++ follow l.byte (map g.T.ListPart.text l.rest) ≡ l.fn.out.items
    ++ follow l.byte (map g.T.ListPart.text l.parts)

abbrev pub decreases-loop-rest : goal.decreases-loop-rest
decreases-loop-rest g l = length l.rest
