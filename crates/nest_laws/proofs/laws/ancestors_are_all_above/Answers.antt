use Rattle.nest_laws.proofs.Ancestry.{all_above, not_above_itself}
use Rattle.nest_laws.proofs.laws.ancestors_are_all_above.Goals as goal

pub returns : goal.returns
returns c = record { all = all_above; others = not_above_itself }
