use Rattle.log_rules.specs.Tallied.{Keeps}
use Rattle.log_rules.proofs.tally.Tally.remember_few.Given as goal

abbrev pub invariant-loop-before : goal.invariant-loop-before
invariant-loop-before g l = Keeps l.tables l.initial.self l.self
