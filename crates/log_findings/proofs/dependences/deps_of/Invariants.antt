use Rattle.std.proofs.Common.{◌≡◌, ◌++◌, map, Contains}
use Rattle.outcomes.specs.Outcome.{dependences}
use Rattle.interference.specs.declared.pair.Pair.{Pair}
use Rattle.interference.specs.Pairing.{all_pairs}
use Rattle.log_findings.specs.Listing.{dependence_of}
use Rattle.log_findings.proofs.dependences.deps_of.Given as goal

abbrev pub invariant-loop-pair : goal.invariant-loop-pair
invariant-loop-pair g l =
    (goal.iterator-loop-pair g).can_next l.pair-iterator × (goal.iterator-loop-pair g).is_finite l.pair-iterator
    × ((p : Pair) → Contains l.pair-iterator p → Contains (all_pairs l.fn.log) p)
    × (l.list.items ++ map (dependence_of l.fn.log) l.pair-iterator ≡ dependences l.fn.log)
