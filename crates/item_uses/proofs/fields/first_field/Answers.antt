use Rattle.item_uses.proofs.Ends.{first_least}
use Rattle.item_uses.proofs.fields.first_field.Goals as goal

pub returns : goal.returns
returns c = first_least c.args.fields.now c.requires
