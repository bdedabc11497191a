use Rattle.std.proofs.Common.{All, take}
use Rattle.vocabulary.specs.Prelude.{Before}
use Rattle.cell_races.proofs.chains.all_lead_to.Given as goal

abbrev pub invariant-loop-a : goal.invariant-loop-a
invariant-loop-a l = All (λ a. Before l.graph a l.b) (take l.a-index l.group)
