use Rattle.std.proofs.Common.{◌≡◌, Contains}
use Rattle.interference.specs.declared.pair.Pair.{Pair}
use Rattle.interference.specs.Pairing.{all_pairs}
use Rattle.log_findings.proofs.Writings.{IsListing}
use Rattle.log_findings.proofs.written_deps.put_pairs.Given as goal

abbrev pub invariant-loop-pair : goal.invariant-loop-pair
invariant-loop-pair g l =
    (goal.iterator-loop-pair g).can_next l.pair-iterator × (goal.iterator-loop-pair g).is_finite l.pair-iterator
    × ((p : Pair) → Contains l.pair-iterator p → Contains (all_pairs l.fn.log) p)
    × IsListing l.fn.log (g.K.Sink.held l.fn.sink) (g.K.Sink.held l.sink) l.writer.out l.writer.before l.writer.turn l.pair-iterator
    × (g.K.Sink.faults l.sink ≡ g.K.Sink.faults l.fn.sink)
    × (g.K.Sink.ended l.fn.sink ≡ 0 → g.K.Sink.ended l.sink ≡ 0)
