use Rattle.vocabulary.specs.Prelude.{records_of}
use Rattle.log_laws.proofs.lemmas.ReadLogs.{held_is_good, printed_has_no_fault, printed_is_read}
use Rattle.log_laws.proofs.read_laws.printed_logs_are_read.Goals as goal
use Rattle.log_laws.proofs.lemmas.Numbered.{records_numbered}

pub returns-clause-fault : goal.returns-clause-fault
returns-clause-fault c = printed_has_no_fault

pub returns-clause-log : goal.returns-clause-log
returns-clause-log c bytes log reads = printed_is_read (records_of log) (held_is_good 1 _ log reads.hold)

pub returns-clause-records : goal.returns-clause-records
returns-clause-records c bytes log reads = records_numbered 1 (records_of log)
