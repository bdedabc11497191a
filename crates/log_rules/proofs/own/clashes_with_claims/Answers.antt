use Rattle.std.proofs.Common.{ap, ◌∙◌}
use Rattle.std.specs.List.{list_any}
use Rattle.log_rules.specs.Own.{clashes_row}
use Rattle.log_rules.proofs.own.clashes_with_claims.Goals as goal

pub returns : goal.returns
returns g c = λ all grid.
    let asked = c.args.asked.now in
    c.clashes_any.ensures
    ∙ ap (list_any (clashes_row c.args.tally.now.claims asked.item asked.tree asked.fields.now asked.access))
    (c.as_slice.ensures.value ∙ c.in_ok-points.ensures all grid)
