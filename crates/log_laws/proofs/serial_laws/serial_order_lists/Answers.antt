use Rattle.vocabulary.specs.Prelude.{tables_of}
use Rattle.semantics.specs.SerialOrder.{serial}
use Rattle.log_laws.proofs.lemmas.Admitted.{no_broken_rule}
use Rattle.log_laws.proofs.lemmas.SerialOrder.{serial_has_each}
use Rattle.log_laws.proofs.serial_laws.serial_order_lists.Goals as goal

pub returns-clause-once : goal.returns-clause-once
returns-clause-once c lines log none = (serial_has_each log (no_broken_rule lines log none)).0

pub returns-clause-items : goal.returns-clause-items
returns-clause-items c lines log none item =
    let is = (serial_has_each log (no_broken_rule lines log none)).1 item in
    let order = serial (tables_of log) in
    (λ m. is.0 m, λ lt. (is.1 lt))
