use Rattle.std.proofs.Common.{take}
use Rattle.id_maps.specs.Sets.{has_id}
use Rattle.vocabulary.specs.Prelude.{records_of}
use Rattle.log_rules.specs.Gathered.{AreRun}
use Rattle.log_rules.proofs.whole_log.tasks_run.Given as goal

abbrev pub invariant-loop-l : goal.invariant-loop-l
invariant-loop-l l = AreRun (records_of (take l.l-index l.log)) (has_id l.tasks) (has_id l.run)
