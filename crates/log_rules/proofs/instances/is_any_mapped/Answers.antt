use Rattle.std.proofs.Common.{◌∙◌, ap}
use Rattle.std.specs.List.{list_any}
use Rattle.log_rules.specs.Instances.{is_mapped}
use Rattle.log_rules.proofs.Mappings.{maps-by_field}
use Rattle.log_rules.proofs.instances.is_any_mapped.Goals as goal

pub returns : goal.returns
returns g c =
    c.finds_mapped.ensures
    ∙ ap (list_any (is_mapped c.args.tables.now c.args.item c.args.number)) c.as_slice.ensures
    ∙ maps-by_field c.args.tables.now.maps c.args.item c.args.number c.args.fields.now
