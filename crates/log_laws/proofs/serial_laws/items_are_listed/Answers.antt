use Rattle.vocabulary.specs.Prelude.{records_of, tables_of}
use Rattle.log_laws.proofs.lemmas.Admitted.{no_broken_rule}
use Rattle.log_laws.proofs.lemmas.Listed.{are_listed, each_listed, line_found}
use Rattle.log_laws.proofs.lemmas.SerialOrder.{place_within}
use Rattle.log_laws.proofs.serial_laws.items_are_listed.Goals as goal

pub returns-clause-listed : goal.returns-clause-listed
returns-clause-listed c lines log none some item lt =
    (each_listed log (no_broken_rule lines log none) some item lt)

pub returns-clause-line : goal.returns-clause-line
returns-clause-line c lines log none some item lt =
    line_found (tables_of log).serials _ (each_listed log (no_broken_rule lines log none) some item lt)

pub returns-clause-once : goal.returns-clause-once
returns-clause-once c lines log none = (are_listed log (no_broken_rule lines log none)).once

pub returns-clause-known : goal.returns-clause-known
returns-clause-known c lines log none id m = (are_listed log (no_broken_rule lines log none)).known id
    m

pub returns-clause-place : goal.returns-clause-place
returns-clause-place c lines log none id m = place_within (records_of log) (tables_of log)
    (are_listed log (no_broken_rule lines log none)) id m
