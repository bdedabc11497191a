use Rattle.std.proofs.Common.{◌≡◌, false, take}
use Rattle.std.specs.List.{list_any}
use Rattle.vocabulary.specs.Prelude.{records_of}
use Rattle.semantics.specs.Rules.{runs_task}
use Rattle.log_rules.proofs.whole_log.is_run.Given as goal

abbrev pub invariant-loop-l : goal.invariant-loop-l
invariant-loop-l l = list_any (runs_task l.task) (records_of (take l.l-index l.log)) ≡ false
