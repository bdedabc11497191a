use Rattle.spare_laws.proofs.lemmas.Spared.{spare_same, spare_least}
use Rattle.spare_laws.proofs.laws.spare_waits_are_implied.Goals as goal

pub returns : goal.returns
returns c = record { same = spare_same; least = spare_least }
