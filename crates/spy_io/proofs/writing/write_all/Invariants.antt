use Rattle.std.proofs.Common.{◌≡◌, length}
use Rattle.spy_io.proofs.Known.{IsWritten}
use Rattle.spy_io.proofs.writing.write_all.Given as goal

abbrev pub invariant-loop-rest : goal.invariant-loop-rest
invariant-loop-rest g l = record {
  written : IsWritten (g.K.Sink.held l.fn.sink) (g.K.Sink.held l.sink) l.bytes l.rest;
  no_fault : g.K.Sink.faults l.sink ≡ g.K.Sink.faults l.fn.sink;
  unended : g.K.Sink.ended l.fn.sink ≡ 0 → g.K.Sink.ended l.sink ≡ 0;
}

abbrev pub decreases-loop-rest : goal.decreases-loop-rest
decreases-loop-rest g l = length l.rest
