use Rattle.std.proofs.Common.{sym}
use Rattle.item_uses.proofs.Shared.{least_found}
use Rattle.item_uses.proofs.fields.first_shared.Goals as goal

pub loop-field-init : goal.loop-field-init
loop-field-init c = sym (least_found c.args.ours.now c.args.theirs.now c.requires.ours)
