use Rattle.std.proofs.Common.{take}
use Rattle.vocabulary.specs.Prelude.{records_of}
use Rattle.log_input.specs.AskedIds.{IsAskedBy}
use Rattle.log_input.proofs.asked.AskedIds.by.Given as goal

abbrev pub invariant-loop-l : goal.invariant-loop-l
invariant-loop-l l = IsAskedBy (records_of (take l.l-index l.log)) l.asked
