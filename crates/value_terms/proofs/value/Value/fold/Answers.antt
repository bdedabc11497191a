use Rattle.std.proofs.Common.{◌∙◌}
use Rattle.value_terms.proofs.Held.{one_group, nothing_folded, group_folded}
use Rattle.value_terms.proofs.value.Value.fold.Goals as goal

pub join-requires-clause-some : goal.join-requires-clause-some
join-requires-clause-some c = (one_group _ _ _ c.rules.ensures c.in-Adds.ensures).some

pub join-requires-clause-bag : goal.join-requires-clause-bag
join-requires-clause-bag c = (one_group _ _ _ c.rules.ensures c.in-Adds.ensures).well_formed

pub join-requires-clause-small : goal.join-requires-clause-small
join-requires-clause-small c = (one_group _ _ _ c.rules.ensures c.in-Adds.ensures).small

pub returns-in-Nothing-clause-ok : goal.returns-in-Nothing-clause-ok
returns-in-Nothing-clause-ok c = nothing_folded c.args.op c.args.self.now c.args.from.now c.in-Nothing.ensures

pub returns-in_ok-join-in-Adds-clause-ok : goal.returns-in_ok-join-in-Adds-clause-ok
returns-in_ok-join-in-Adds-clause-ok c = c.in_ok-join-in-Adds.ensures.ok
    ∙ group_folded c.args.op _ c.args.self.now c.args.from.now c.in-Adds.ensures
