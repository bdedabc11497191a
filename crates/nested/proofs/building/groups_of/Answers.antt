use Rattle.nested.proofs.Ending.{groups_told}
use Rattle.nested.proofs.building.groups_of.Goals as goal

pub returns-in-Ok-Ok-clause-groups : goal.returns-in-Ok-Ok-clause-groups
returns-in-Ok-Ok-clause-groups g c =
    let told = c.in-Ok-Ok.ensures in
    groups_told c.args.tables.now c.args.nested.items c.in-Ok-Ok.groups c.in-Ok-Ok.field-0 c.in-Ok-Ok.field-0-is told.nesting told.few told.faultless
