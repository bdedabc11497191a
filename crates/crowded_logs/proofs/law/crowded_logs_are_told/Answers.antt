use Rattle.crowded_logs.proofs.lemmas.CrowdedFault.{fault_told, header_told, some_told}
use Rattle.crowded_logs.proofs.law.crowded_logs_are_told.Goals as goal

pub returns-clause-fault : goal.returns-clause-fault
returns-clause-fault c = fault_told

pub returns-clause-some : goal.returns-clause-some
returns-clause-some c = some_told

pub returns-clause-header : goal.returns-clause-header
returns-clause-header c = header_told
