use Rattle.order_laws.proofs.ShownPair.{all_kept, first_shown}
use Rattle.order_laws.proofs.laws.first_pair_is_shown.Goals as goal

pub returns-clause-kept : goal.returns-clause-kept
returns-clause-kept c = all_kept

pub returns-clause-shown : goal.returns-clause-shown
returns-clause-shown c = first_shown
