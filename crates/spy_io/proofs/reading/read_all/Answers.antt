use Rattle.std.proofs.Common.{◌++◌, take, arith}
use Rattle.std.proofs.lemmas.Grind.{common_steps}
use Rattle.spy_io.proofs.Known.{consumes_both}
use Rattle.spy_io.proofs.reading.read_all.Goals as goal

pub returns-in_err-extend_from_slice-in-Ok-clause-memory_takes : goal.returns-in_err-extend_from_slice-in-Ok-clause-memory_takes
returns-in_err-extend_from_slice-in-Ok-clause-memory_takes g c = λ _. record {
  bytes = c.loop-piece.bytes.items ++ take c.in-Ok.n c.take.new.into;
  taken = consumes_both _ _ _ _ _ c.loop-piece.invariant.taken c.in-Ok.ensures.bytes.0;
  few = grind (arith, common_steps);
}
