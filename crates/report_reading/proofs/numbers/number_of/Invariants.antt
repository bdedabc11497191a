use Rattle.std.proofs.Common.{◌≡◌, ◌≤◌, ◌+◌, ◌-◌, ◌*◌, min, fold, length}
use Rattle.report_reading.specs.Numbers as says
use Rattle.report_reading.proofs.numbers.number_of.Given as goal

abbrev pub invariant-loop-rest : goal.invariant-loop-rest
invariant-loop-rest l = record {
  value : fold (λ value b. min (value * 10 + (b - 48)) l.greatest) l.value l.rest ≡ says.number_of l.greatest l.word;
  bound : l.value ≤ l.greatest;
}

abbrev pub decreases-loop-rest : goal.decreases-loop-rest
decreases-loop-rest l = length l.rest
