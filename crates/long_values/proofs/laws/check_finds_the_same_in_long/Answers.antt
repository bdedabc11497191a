use Rattle.long_values.proofs.lemmas.Checked.{check_same, found_same, outcome_same}
use Rattle.long_values.proofs.laws.check_finds_the_same_in_long.Goals as goal

pub returns-clause-tables : goal.returns-clause-tables
returns-clause-tables c = check_same

pub returns-clause-found : goal.returns-clause-found
returns-clause-found c = found_same

pub returns-clause-outcome : goal.returns-clause-outcome
returns-clause-outcome c = outcome_same
