use Rattle.log_laws.proofs.lemmas.ReadLogs.{held_is_good}
use Rattle.log_laws.proofs.read_laws.read_logs_are_good.Goals as goal

pub returns : goal.returns
returns c = record { held = held_is_good; read = λ bytes log reads. held_is_good 1 _ log reads.hold }
