use Rattle.std.proofs.Common.{◌≡◌, ◌≤◌, take}
use Rattle.vocabulary.specs.Prelude.{records_of}
use Rattle.log_rules.specs.Gathered.{list_count}
use Rattle.log_rules.proofs.whole_log.list_count.Given as goal

abbrev pub invariant-loop-l : goal.invariant-loop-l
invariant-loop-l l = (l.count ≡ list_count (records_of (take l.l-index l.log))) × (l.count ≤ l.l-index)
