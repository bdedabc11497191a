use Rattle.std.proofs.Common.{◌≡◌, map, take}
use Rattle.vocabulary.specs.Prelude.{strip}
use Rattle.log_tables.proofs.adding.strips_of.Given as goal

abbrev pub invariant-loop-run : goal.invariant-loop-run
invariant-loop-run l = l.rects.items ≡ map strip (take l.run-index l.runs)
