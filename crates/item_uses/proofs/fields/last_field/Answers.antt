use Rattle.item_uses.proofs.Ends.{last_most}
use Rattle.item_uses.proofs.fields.last_field.Goals as goal

pub returns : goal.returns
returns c = last_most c.args.fields.now c.requires
