use Rattle.std.proofs.Common.{take}
use Rattle.id_maps.specs.Sets.{has_id}
use Rattle.vocabulary.specs.Prelude.{records_of}
use Rattle.log_rules.specs.Gathered.{AreCompleted}
use Rattle.log_rules.proofs.whole_log.completed.Given as goal

abbrev pub invariant-loop-l : goal.invariant-loop-l
invariant-loop-l l = AreCompleted (records_of (take l.l-index l.log)) (has_id l.events) (has_id l.done)
