use Rattle.std.proofs.lemmas.List.Elements.{recursion_from_All, All-from_recursion}
use Rattle.vocabulary.specs.Prelude.{Good}
use Rattle.semantics.specs.Launches.{written_log}
use Rattle.log_laws.proofs.lemmas.ReadLogs.{printed_is_read}
use Rattle.launch_laws.proofs.lemmas.WrittenLogs.{written_clean, written_good}
use Rattle.launch_laws.proofs.laws.written_logs_are_logs.Goals as goal

pub returns-clause-good : goal.returns-clause-good
returns-clause-good c lines log good none = All-from_recursion Good (written_log log)
    (written_good lines log (recursion_from_All _ log good) none)

pub returns-clause-fault : goal.returns-clause-fault
returns-clause-fault c lines log good none = written_clean lines log (recursion_from_All _ log good) none

pub returns-clause-log : goal.returns-clause-log
returns-clause-log c lines log good none = printed_is_read (written_log log) (written_good lines log (recursion_from_All _ log good) none)
