use Rattle.nested.proofs.Origins.{licensed_found}
use Rattle.nested.proofs.building.nest_of.Goals as goal

pub of-requires-clause-licensed : goal.of-requires-clause-licensed
of-requires-clause-licensed g c =
    licensed_found c.args.log c.tables.result.now c.args.nested.items c.in-Ok.found.groups c.in-Ok.found.rows.items c.tables.ensures c.requires.origin c.in-Ok.ensures.found
