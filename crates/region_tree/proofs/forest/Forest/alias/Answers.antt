use Rattle.std.proofs.Common.{subst}
use Rattle.log_tables.specs.Regions.{Regions}
use Rattle.region_tree.specs.Sharing.{IsLeastShared}
use Rattle.region_tree.proofs.forest.Forest.alias.Goals as goal

pub returns : goal.returns
returns g c = let P : Regions → Type 0 = λ d. IsLeastShared d c.args.a.now c.args.b.now c.alias_of.result in
    subst P c.self.view_is c.alias_of.ensures
