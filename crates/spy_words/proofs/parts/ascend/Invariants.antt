use Rattle.std.proofs.Common.{◌≡◌, ◌∷◌, length}
use Rattle.spy_words.specs.Classes.{ascends}
use Rattle.spy_words.proofs.parts.ascend.Given as goal

abbrev pub invariant-loop-rest : goal.invariant-loop-rest
invariant-loop-rest g l = ascends g.T.ListPart.before (l.last ∷ l.rest) ≡ ascends g.T.ListPart.before l.parts

abbrev pub decreases-loop-rest : goal.decreases-loop-rest
decreases-loop-rest g l = length l.rest
