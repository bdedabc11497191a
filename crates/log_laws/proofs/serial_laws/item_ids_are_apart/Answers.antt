use Rattle.log_laws.proofs.lemmas.Admitted.{no_broken_rule}
use Rattle.log_laws.proofs.lemmas.Listed.{are_listed}
use Rattle.log_laws.proofs.lemmas.SerialOrder.{items_placed}
use Rattle.log_laws.proofs.serial_laws.item_ids_are_apart.Goals as goal

pub returns-clause-apart : goal.returns-clause-apart
returns-clause-apart c lines log none = (are_listed log (no_broken_rule lines log none)).ids

pub returns-clause-place : goal.returns-clause-place
returns-clause-place c lines log none = items_placed log (no_broken_rule lines log none)
